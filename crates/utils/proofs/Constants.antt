-- The constants of filter.rs as the code has them: composed at f32, each is one pattern. Assumes nothing.
use mathlib.Core.Path.{◌≡◌, refl}
use lib.Ieee.{binary32, of_bits, mul}
use Rattle.utils.specs.Filter.{m_pi, m_pi2, m_pi3, m_pi5, dirty_a, fast_a, fast_b}

pub pi_bits : of_bits binary32 0x40490fdb ≡ m_pi
unfolding m_pi
pi_bits = refl

pub dirty_a_bits : of_bits binary32 0x413957d8 ≡ dirty_a
unfolding dirty_a m_pi3 m_pi2 m_pi of_bits mul
dirty_a_bits = refl

pub fast_a_bits : of_bits binary32 0x4121ba90 ≡ fast_a
unfolding fast_a m_pi3 m_pi2 m_pi of_bits mul
fast_a_bits = refl

pub fast_b_bits : of_bits binary32 0x425f264b ≡ fast_b
unfolding fast_b m_pi5 m_pi3 m_pi2 m_pi of_bits mul
fast_b_bits = refl
