-- One loop over the frames is the excitation filter, then aux, then the string: laws over plain values. Assumes nothing.
use mathlib.Core.Path.{◌≡◌, sym, ◌∙◌, ap}
use mathlib.Core.Bool.{cond}
use mathlib.Core.List.{List}
use Prim.Native.Nat.{ℕ, ◌-◌, ◌≤◌, ◌^◌, min}
use lib.ListN.{length}
use lib.Ieee.{Float, nan}
use Rattle.ground.specs.Draw.{Draw, Ran, run, counted}
use Rattle.ground.specs.Frames.{frames}
use Rattle.ground.proofs.Draw.{run_bind, run_then}
use Rattle.utils.specs.declared.filter.Svf.{Svf}
use Rattle.utils.specs.Filter.{svf_step, svf_process_buffer}
use Rattle.noise.specs.declared.excitation.Knobs.{Knobs}
use Rattle.noise.specs.declared.excitation.Counts.{Counts}
use Rattle.noise.specs.Excitation.{raised, added}
use Rattle.waveguide.specs.declared.string.StringNonLinearity.{StringNonLinearity}
use Rattle.waveguide.specs.declared.string.Params.{Params}
use Rattle.waveguide.specs.declared.string.String.{String}
use Rattle.waveguide.specs.declared.string.Prepared.{Prepared}
use Rattle.waveguide.specs.String.{non_linearity, prepare, frame}
use Rattle.waveguide.proofs.Blocks.{processed}
use Rattle.string_voice.specs.declared.string_voice.StringVoice.{StringVoice}
use Rattle.string_voice.specs.StringVoice.{strike, excitation, excitation_words, excitation_counts, amount, render_of}
use Rattle.string_voice.specs.OneLoop.{Framed, frames_of}
use Rattle.string_voice.proofs.Halves.{excited, sounded, rendered}

-- a block of n frames, and what its filter leaves in temp_2
pub record Block (temp temp2 out aux filtered : List Float) (n : ℕ) : Type 0 where
  pub all : n ≡ length temp
  pub temp2_size : length temp2 ≡ n
  pub out_size : length out ≡ n
  pub aux_size : length aux ≡ n
  pub filtered_size : length filtered ≡ n
  pub few : n ≤ 2 ^ 24

-- a sample through the excitation filter
abbrev pub filter_of : Svf → Float → Svf × Float
filter_of s x = svf_step s x nan

-- what stands at the loop's end
pub all_frames : (shape : StringNonLinearity) (p : Params) (f : Svf) (s : String × List Float) (temp temp2 out aux : List Float) (word : ℕ)
    {z : Svf} {t : String} {lines' temp2' out' aux' : List Float} {drawn word' : ℕ}
    → ◌≡◌ {A = Svf × List Float} (z, temp2') (svf_process_buffer f temp temp2)
    → aux' ≡ added (svf_process_buffer f temp temp2).1 aux
    → run (counted (frames (frame shape p) s (svf_process_buffer f temp temp2).1 out)) word ≡ record { value = (((t, lines'), out'), drawn); word = word' }
    → run (frames_of shape p f s temp temp2 out aux) word ≡ record {
      value = record { filter = z; string = t; lines = lines'; temp2 = temp2'; out = out'; aux = aux'; drawn = drawn };
      word = word';
    }
unfolding frames_of
all_frames shape p f s temp temp2 out aux word {z} {t} {lines'} {temp2'} {out'} {aux'} {drawn} {word'} et ea er =
    run_then (counted (frames (frame shape p) s (svf_process_buffer f temp temp2).1 out)) _ word er
    ∙ (λ j. record {
      value = record { filter = (sym et j).0; string = t; lines = lines'; temp2 = (sym et j).1; out = out'; aux = sym ea j; drawn = drawn };
      word = word';
    })

-- ---- what the loop leaves, as the halves leave it
module _ (shape : StringNonLinearity) (p : Params) (f : Svf) (s : String × List Float) (temp temp2 out aux : List Float) (word : ℕ)
    {z : Svf} {t : String} {lines' temp2' out' aux' : List Float} {drawn word' : ℕ}
    (e : run (frames_of shape p f s temp temp2 out aux) word ≡ record {
      value = record { filter = z; string = t; lines = lines'; temp2 = temp2'; out = out'; aux = aux'; drawn = drawn };
      word = word';
    }) where
  -- the string's loop by itself, and all that the loop leaves of it
  abbrev body : List Float → Draw (((String × List Float) × List Float) × ℕ)
  body xs = counted (frames (frame shape p) s xs out)

  abbrev whole : Ran (((String × List Float) × List Float) × ℕ) → Ran Framed
  whole r =
      let q = r.value in
      let b = svf_process_buffer f temp temp2 in
      record {
        value = record { filter = b.0; string = q.0.0.0; lines = q.0.0.1; temp2 = b.1; out = q.0.1; aux = added b.1 aux; drawn = q.1 };
        word = r.word;
      }

  left : whole (run (body (svf_process_buffer f temp temp2).1) word) ≡ record {
    value = record { filter = z; string = t; lines = lines'; temp2 = temp2'; out = out'; aux = aux'; drawn = drawn };
    word = word';
  }
  unfolding frames_of
  left = sym (run_bind (body (svf_process_buffer f temp temp2).1) _ word) ∙ e

  pub filtered : ◌≡◌ {A = Svf × List Float} (z, temp2') (svf_process_buffer f temp temp2)
  filtered = sym (ap (λ (r : Ran Framed). (r.value.filter, r.value.temp2)) left)

  pub mixed : aux' ≡ added temp2' aux
  mixed = sym (ap (λ (r : Ran Framed). r.value.aux) left) ∙ ap (λ (xs : List Float). added xs aux) (sym (ap (λ (q : Svf × List Float). q.1) filtered))

  pub strung_run : run (body temp2') word ≡ record { value = (((t, lines'), out'), drawn); word = word' }
  strung_run =
      ap (λ (q : Svf × List Float). run (body q.1) word) filtered
      ∙ ap (λ (r : Ran Framed). record { value = (((r.value.string, r.value.lines), r.value.out), r.value.drawn); word = r.word }) left

-- ---- the render
module _ (k : Knobs) (v s : StringVoice) (lines temp temp2 out aux : List Float) (word : ℕ) where
  pub together : {left w w' : ℕ} {counts : Counts} {temp' temp2' out' aux' lines' : List Float} {x b d : Float} {shape : StringNonLinearity} {q : Prepared}
      {z : Svf} {t : String} {drawn : ℕ}
      → s ≡ strike k v
      → left ≡ cond k.sustain s.remaining_noise_samples (s.remaining_noise_samples - min s.remaining_noise_samples (length temp))
      → counts ≡ excitation_counts k.sustain (excitation_words k.sustain s.remaining_noise_samples (length temp))
      → run (excitation k.sustain k s.remaining_noise_samples temp) word ≡ record { value = temp'; word = w }
      → x ≡ amount k.structure → shape ≡ non_linearity x → b ≡ raised k.accent k.brightness → d ≡ raised k.accent k.damping
      → q ≡ prepare s.string shape k.f0 b d (length out)
      → run (frames_of q.block.shape q.block.params s.excitation_filter (q.string, lines) temp' temp2 out aux) w ≡ record {
        value = record { filter = z; string = t; lines = lines'; temp2 = temp2'; out = out'; aux = aux'; drawn = drawn };
        word = w';
      }
      → run (render_of k v lines temp temp2 out aux) word ≡ record {
        value = record {
          voice = record { excitation_filter = z; string = t; remaining_noise_samples = left };
          lines = lines';
          temp = temp';
          temp2 = temp2';
          out = out';
          aux = aux';
          counts = record { burst = counts.burst; dust = counts.dust; dispersion = drawn };
        };
        word = w';
      }
  together {left} {w} {temp' = temp'} {temp2' = temp2'} {b = b} {d = d} {shape = shape} {q = q} {z = z} es el ec et ex eh eb ed eq ef =
      let f = s.excitation_filter in
      let e : StringVoice = record { excitation_filter = z; string = s.string; remaining_noise_samples = left } in
      rendered k v lines temp temp2 out aux word
      (excited k v s temp temp2 aux word es el et (filtered q.block.shape q.block.params f (q.string, lines) temp' temp2 out aux w ef)
      (mixed q.block.shape q.block.params f (q.string, lines) temp' temp2 out aux w ef) ec)
      (sounded k e lines temp2' out w ex eh eb ed (processed shape k.f0 b d s.string lines temp2' out w eq
      (strung_run q.block.shape q.block.params f (q.string, lines) temp' temp2 out aux w ef)))
