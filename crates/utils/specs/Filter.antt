-- filter.rs: the DC blocker, the approximate tangents, and the state variable filter at its low pass. Assumes nothing.
use Rattle.std.specs.Prelude.{List, Float}
use Rattle.std.specs.Float.{binary32}
use Rattle.std.specs.Float.Ieee.{of_bits}
use Rattle.utils.specs.declared.filter.FrequencyApproximation.{FrequencyApproximation}
use Rattle.utils.specs.declared.filter.FrequencyApproximation.TheVariants.{Fast, Dirty}
use Rattle.utils.specs.declared.filter.DcBlocker.{DcBlocker}
use Rattle.utils.specs.declared.filter.Svf.{Svf}
use Rattle.ground.specs.F32.{◌⊕◌, ◌⊖◌, ◌⊗◌, ◌⊘◌, c0, c0·01, c1, c100}
use Rattle.ground.specs.Frames.{scan}

-- ---- DcBlocker

-- init
unfoldable pub dc_init : Float → DcBlocker
dc_init pole = record { pole = pole; x = c0; y = c0 }

-- process, of one sample
unfoldable pub dc_process_sample : DcBlocker → Float → DcBlocker
dc_process_sample d x = record d { x = x; y = d.y ⊗ d.pole ⊕ x ⊖ d.x }

-- process: in place, so that the input is the buffer itself
abbrev pub dc_step : DcBlocker → Float → Float → DcBlocker × Float
dc_step d x y = (dc_process_sample d y, (dc_process_sample d y).y)

abbrev pub dc_process : DcBlocker → List Float → DcBlocker × List Float
dc_process d ys = scan dc_step d ys ys

-- ---- OnePole::tan, and its constants, composed as in the Rust

unfoldable pub m_pi : Float
m_pi = of_bits binary32 0x40490fdb

unfoldable pub m_pi2 : Float
m_pi2 = m_pi ⊗ m_pi

unfoldable pub m_pi3 : Float
m_pi3 = m_pi2 ⊗ m_pi

unfoldable pub m_pi5 : Float
m_pi5 = m_pi3 ⊗ m_pi2

-- 3.736e-01, 3.260e-01 and 1.823e-01 times their powers of pi
unfoldable pub dirty_a : Float
dirty_a = of_bits binary32 0x3ebf4880 ⊗ m_pi3

unfoldable pub fast_a : Float
fast_a = of_bits binary32 0x3ea6e979 ⊗ m_pi3

unfoldable pub fast_b : Float
fast_b = of_bits binary32 0x3e3aacda ⊗ m_pi5

unfoldable pub tan_dirty : Float → Float
tan_dirty f = f ⊗ (m_pi ⊕ dirty_a ⊗ f ⊗ f)

unfoldable pub tan_fast : Float → Float
tan_fast f = let f2 = f ⊗ f in f ⊗ (m_pi ⊕ f2 ⊗ (fast_a ⊕ fast_b ⊗ f2))

abbrev pub tan_of : FrequencyApproximation → Float → Float
tan_of Fast f = tan_fast f
tan_of Dirty f = tan_dirty f

-- ---- Svf

-- new
unfoldable pub svf_new : Svf
svf_new = record { g = c0; r = c0; h = c0; state_1 = c0; state_2 = c0 }

-- reset
unfoldable pub svf_reset : Svf → Svf
svf_reset s = record s { state_1 = c0; state_2 = c0 }

-- set_f_q
unfoldable pub svf_set_f_q : Svf → Float → Float → FrequencyApproximation → Svf
svf_set_f_q s f resonance approximation =
    let g = tan_of approximation f in
    let r = c1 ⊘ resonance in
    record s { g = g; r = r; h = c1 ⊘ (c1 ⊕ r ⊗ g ⊕ g ⊗ g) }

-- init
unfoldable pub svf_init : Svf → Svf
svf_init s = svf_reset (svf_set_f_q s c0·01 c100 Dirty)

-- process, at FilterMode::LowPass
unfoldable pub svf_process : Svf → Float → Svf × Float
svf_process s x =
    let hp = (x ⊖ s.r ⊗ s.state_1 ⊖ s.g ⊗ s.state_1 ⊖ s.state_2) ⊗ s.h in
    let bp = s.g ⊗ hp ⊕ s.state_1 in
    let lp = s.g ⊗ bp ⊕ s.state_2 in
    (record s { state_1 = s.g ⊗ hp ⊕ bp; state_2 = s.g ⊗ bp ⊕ lp }, lp)

-- process_buffer, at FilterMode::LowPass: the frames of the zipped buffers
abbrev pub svf_step : Svf → Float → Float → Svf × Float
svf_step s x y = svf_process s x

abbrev pub svf_process_buffer : Svf → List Float → List Float → Svf × List Float
svf_process_buffer = scan svf_step
