-- The held strike (01 'Modal'): a block of frames that finds one sounds as if it were triggered, and leaves none. Assumes nothing.
use mathlib.Core.Path.{◌≡◌, refl, sym, ap, ap₂, ◌∙◌}
use mathlib.Core.Bool.{Bool, true, false, ◌||◌}
use mathlib.Core.List.{List}
use Prim.Native.Nat.{◌<◌}
use borrow.Author.Tests.{lt-ltb}
use lib.ListN.{length}
use lib.Ieee.{Float}
use Rattle.ground.specs.F32.{c1}
use Rattle.ground.specs.Draw.{Draw, ret, counted, ◌>>=◌}
use Rattle.noise.specs.declared.excitation.Knobs.{Knobs}
use Rattle.noise.specs.Excitation.{added}
use Rattle.modal_voice.specs.declared.modal_voice.ModalVoice.{ModalVoice}
use Rattle.modes.specs.Resonator.{mode_of, svf_process_low}
use Rattle.modal_voice.specs.ModalVoice.{cutoff_for, resonance_for, clicked, excitation, held_after, excitation_counts, Excited, excite_of, sound_of, render_of}

-- the same knobs, triggered
abbrev pub triggered : Knobs → Knobs
triggered k =
    record {
      sustain = k.sustain;
      trigger = true;
      accent = k.accent;
      f0 = k.f0;
      structure = k.structure;
      brightness = k.brightness;
      damping = k.damping;
    }

-- the same voice, with or without a held strike
abbrev pub holding : Bool → ModalVoice → ModalVoice
holding b v = record { excitation_filter = v.excitation_filter; resonator = v.resonator; held = b }

or_true : (b : Bool) → (b || true) ≡ true
or_true true = refl
or_true false = refl

held_clicks : (k : Knobs) (cutoff : Float) (temp : List Float) → clicked k true cutoff temp ≡ clicked (triggered k) false cutoff temp
unfolding clicked
held_clicks k cutoff temp = rw (or_true k.trigger)

held_excites : (b : Bool) (k : Knobs) (cutoff : Float) (temp : List Float) → excitation b k true cutoff temp ≡ excitation b (triggered k) false cutoff temp
unfolding excitation
held_excites true k cutoff temp = refl
held_excites false k cutoff temp = ap ret (held_clicks k cutoff temp)

none_left : (k : Knobs) (held : Bool) (temp : List Float) → 0 < length temp → held_after k held (length temp) ≡ false
unfolding held_after
none_left k held temp l = rw (lt-ltb 0 (length temp) l)

first_half : (k : Knobs) (v : ModalVoice) (temp temp2 aux : List Float) → 0 < length temp
    → excite_of k (holding true v) temp temp2 aux ≡ excite_of (triggered k) (holding false v) temp temp2 aux
unfolding excite_of cutoff_for
first_half k v temp temp2 aux l =
    ap₂
    (λ (m : Draw (List Float)) (h : Bool). counted m >>= λ t.
    let f = svf_process_low (mode_of (cutoff_for k) (resonance_for k) c1) v.excitation_filter t.0 temp2 in
    ret record {
      voice = record { excitation_filter = f.0; resonator = v.resonator; held = h };
      temp = t.0;
      temp2 = f.1;
      aux = added f.1 aux;
      counts = excitation_counts t.1;
    })
    (held_excites k.sustain k (cutoff_for k) temp) (none_left k true temp l ∙ sym (none_left (triggered k) false temp l))

pub held_sounds : (k : Knobs) (v : ModalVoice) (temp temp2 out aux : List Float) → 0 < length temp
    → render_of k (holding true v) temp temp2 out aux ≡ render_of (triggered k) (holding false v) temp temp2 out aux
unfolding render_of sound_of
held_sounds k v temp temp2 out aux l =
    ap (λ (m : Draw Excited). m >>= λ e.
    sound_of k e.voice e.temp2 out >>= λ s.
    ret record { voice = s.voice; temp = e.temp; temp2 = e.temp2; out = s.out; aux = e.aux; counts = e.counts }) (first_half k v temp temp2 aux l)
