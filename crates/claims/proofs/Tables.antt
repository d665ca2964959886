-- Accepted knobs reach no index past a table. Assumes nothing.
use mathlib.Core.Path.{◌≡◌}
use mathlib.Core.Bool.{Bool}
use Prim.Native.Nat.{ℕ}
use native.Mathlib.Omega.{arith}
use Rattle.ground.specs.F32.{c0, c0·5, c1}
use Rattle.bounds.proofs.Indices.{low_in}
use Rattle.noise.specs.declared.excitation.Knobs.{Knobs}
use Rattle.noise.specs.Excitation.{raised}
use Rattle.noise.proofs.Ranges.{Accepted}
use Rattle.waveguide.specs.String.{damping_of}
use Rattle.waveguide.proofs.Ranges.{shift_in}
use Rattle.string_voice.proofs.Ranges.{exciter_index, damping_index}
use Rattle.modal_voice.proofs.Ranges.{in_tables}
use Rattle.std.specs.Prelude.{Ok}
use Rattle.slots.specs.Calls.{Bufs, render}
use Rattle.slots.specs.Table.{in_range, lowest, verdict}
use Rattle.bank.proofs.Accepted.{begun, render_spared}
use Rattle.claims.specs.Tables.{StringInTables, AcceptedInTables}
use Rattle.claims.proofs.Acts.{passes_test, f0_in, knob_in}

accepted : (bad : Bool) (kind slot : ℕ) (k : Knobs) (b : Bufs) → verdict bad kind (record { slot = slot; act = render k b }) ≡ Ok tt → Accepted k
accepted bad kind slot k b e =
    let c = render_spared kind k b (begun bad slot kind (render k b) e).rest in
    record {
      f0 = f0_in k.f0 (passes_test (in_range lowest c0·5 k.f0) c.f0);
      accent = knob_in k.accent (passes_test (in_range c0 c1 k.accent) c.accent);
      structure = knob_in k.structure (passes_test (in_range c0 c1 k.structure) c.structure);
      brightness = knob_in k.brightness (passes_test (in_range c0 c1 k.brightness) c.brightness);
      damping = knob_in k.damping (passes_test (in_range c0 c1 k.damping) c.damping);
    }

string_in_tables : (k : Knobs) → Accepted k → StringInTables k
string_in_tables k a =
    record {
      exciter = exciter_index k.accent k.brightness a.accent a.brightness;
      damping = damping_index k.accent k.brightness a.accent a.brightness k.damping a.damping;
      low = low_in;
      shift = omega (arith, shift_in (damping_of k.f0 (raised k.accent k.brightness) (raised k.accent k.damping)).cutoff);
    }

pub accepted_in_tables : AcceptedInTables
unfolding AcceptedInTables
accepted_in_tables bad kind slot k b f e = let a = accepted bad kind slot k b e in (string_in_tables k a, in_tables k a f)
