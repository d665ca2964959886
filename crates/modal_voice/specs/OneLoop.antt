-- The excitation filter as a filter that runs ahead and settles, and a render by one loop. Assumes nothing.
use Rattle.std.specs.Prelude.{◌≡◌, ℕ, Bool, ◌&&◌, List, Float}
use Rattle.std.specs.Float.{nan}
use Rattle.ground.specs.F32.{c1}
use Rattle.ground.specs.Draw.{run}
use Rattle.ground.specs.Floats.{same_float}
use Rattle.noise.specs.declared.buffers.Buffers.{Buffers}
use Rattle.noise.specs.declared.excitation.Knobs.{Knobs}
use Rattle.noise.specs.declared.excitation.Rendered.{Rendered}
use Rattle.noise.specs.Buffers.{IsSame}
use Rattle.noise.specs.Excitation.{added}
use Rattle.modes.specs.declared.resonator.ResonatorSvf.{ResonatorSvf}
use Rattle.modes.specs.declared.resonator.Batch.{Batch}
use Rattle.modes.specs.declared.resonator.Mode.{Mode}
use Rattle.modes.specs.declared.resonator.Modes.{Modes}
use Rattle.modes.specs.Resonator.{mode_of, low_step, svf_process_low}
use Rattle.modes.specs.OnePass.{one_pass}
use Rattle.modal_voice.specs.declared.modal_voice.ModalVoice.{ModalVoice}
use Rattle.modal_voice.specs.declared.modal_voice.LowPass.{LowPass}
use Rattle.modal_voice.specs.ModalVoice.{resonance_for, render_of}

-- the excitation filter of a block
abbrev pub low_pass_for : Knobs → Float → ModalVoice → LowPass 0
low_pass_for k cutoff v = record { mode = mode_of cutoff (resonance_for k) c1; svf = v.excitation_filter }

-- it after a sample, and the sample that it gives
abbrev pub filter_of : {A : ℕ} → LowPass A → Float → LowPass A × Float
filter_of f x = let u = low_step f.mode f.svf x nan in (record { mode = f.mode; svf = u.0 }, u.1)

-- whether two of it are the same in every bit
abbrev pub low_same : {A : ℕ} → LowPass A → LowPass A → Bool
low_same f t =
    same_float f.svf.state_1 t.svf.state_1 && same_float f.svf.state_2 t.svf.state_2 && same_float f.mode.g t.mode.g
    && same_float f.mode.r_plus_g t.mode.r_plus_g && same_float f.mode.h t.mode.h && same_float f.mode.gain t.mode.gain

-- what one loop over both halves leaves: what the filter keeps and gives, aux, what the modes keep and sound, and temp as it was; all are those that were lent
pub record InOne (mode : Mode) (svf : ResonatorSvf) (m : Modes) (fs : List Batch) (b : Buffers) (r : ResonatorSvf × List Batch) (c : Buffers) : Type 0 where
  pub filtered : ◌≡◌ {A = ResonatorSvf × List Float} (r.0, c.temp_2.now) (svf_process_low mode svf b.temp.now b.temp_2.now)
  pub mixed : c.aux.now ≡ added c.temp_2.now b.aux.now
  pub passed : ◌≡◌ {A = List Batch × List Float} (r.1, c.out.now) (one_pass m fs c.temp_2.now b.out.now)
  pub temp : c.temp.now ≡ b.temp.now
  pub same : IsSame c b

-- render_of the voice and what stands in the buffers gives the answer and what stands in the buffers now; they are those that were lent
pub record Renders (k : Knobs) (v : ModalVoice) (b : Buffers) (word : ℕ) (r : Rendered ModalVoice) (c : Buffers) : Type 0 where
  pub all : run (render_of k v b.temp.now b.temp_2.now b.out.now b.aux.now) word ≡ record {
    value = record { voice = r.voice; temp = c.temp.now; temp2 = c.temp_2.now; out = c.out.now; aux = c.aux.now; counts = r.counts };
    word = r.word;
  }
  pub same : IsSame c b
