-- string.rs: a string's state beside its lines, the string line of 1,024 numbers and the stretch line of 256 behind it. Assumes nothing.
use Rattle.std.specs.Prelude.{Bool, false, cond, ◌&&◌, List, ℕ, ◌+◌, length, Float}
use Rattle.std.specs.Float.Ieee.{lt, le, neg}
use Rattle.resources.specs.Table.{entry}
use Rattle.resources.specs.Svf.{svf_shift}
use Rattle.ground.specs.F32.{◌⊕◌, ◌⊖◌, ◌⊗◌, ◌⊘◌, c0, c0·01, c0·025, c0·06, c0·1, c0·15, c0·225, c0·308, c0·408, c0·499, c0·4999, c0·5, c0·618, c0·75}
use Rattle.ground.specs.F32.{c0·94, c0·95, c0·9999, c1, c1·5, c2, c2·1, c4, c12, c20, c24, c60, c84, c100, c128, c160, c255, c1020, c48000}
use Rattle.ground.specs.Draw.{Draw, ret, ask, ◌>>=◌}
use Rattle.ground.specs.Frames.{frames}
use Rattle.ground.specs.Part.{part, on_part}
use Rattle.ground.specs.Floats.{whole_part, fraction_of, min_f, clamp_f, abs_f}
use Rattle.ground.specs.Random.{get_float}
use Rattle.utils.specs.Utils.{one_pole, crossfade}
use Rattle.utils.specs.Units.{semitones_to_ratio}
use Rattle.utils.specs.ParameterInterpolator.{interpolator_new}
use Rattle.utils.specs.Filter.{svf_new, svf_init, svf_set_f_q, svf_process, dc_init, dc_process_sample}
use Rattle.utils.specs.DelayLine.{line_reset, line_write, allpass, read_with_delay_frac, read_hermite}
use Rattle.utils.specs.declared.filter.FrequencyApproximation.TheVariants.{Fast}
use Rattle.waveguide.specs.declared.string.StringNonLinearity.{StringNonLinearity}
use Rattle.waveguide.specs.declared.string.StringNonLinearity.TheVariants.{CurvedBridge, Dispersion}
use Rattle.waveguide.specs.declared.string.String.{String}
use Rattle.waveguide.specs.declared.string.Damping.{Damping}
use Rattle.waveguide.specs.declared.string.Params.{Params}
use Rattle.waveguide.specs.declared.string.Heard.{Heard}
use Rattle.waveguide.specs.declared.string.Prepared.{Prepared}

-- ---- String::new, and reset and init with the lines

unfoldable pub string_new : String
string_new =
    record {
      string = 0;
      stretch = 0;
      iir_damping_filter = svf_new;
      dc_blocker = dc_init c0;
      delay = c0;
      dispersion_noise = c0;
      curved_bridge = c0;
      src_phase = c0;
      out_sample_0 = c0;
      out_sample_1 = c0;
      sample_rate_hz = c48000;
    }

-- reset leaves the damping filter, the DC blocker, the delay and the sample rate
unfoldable pub string_reset : String → List Float → String × List Float
string_reset s lines =
    let t = record s { string = 0; stretch = 0; dispersion_noise = c0; curved_bridge = c0; src_phase = c0; out_sample_0 = c0; out_sample_1 = c0 } in
    (t, (line_reset lines).1)

unfoldable pub string_init : String → Float → List Float → String × List Float
string_init s rate lines =
    let f = svf_init s.iir_damping_filter in
    let r = string_reset s lines in
    (record r.0 { iir_damping_filter = f; dc_blocker = dc_init (c1 ⊖ c20 ⊘ rate); delay = c100; sample_rate_hz = rate }, r.1)

-- ---- String::process, before its loop

-- the sign of the amount chooses: up to 0 a bridge of the amount's opposite, above it a dispersion
unfoldable pub non_linearity : Float → StringNonLinearity
non_linearity amount = cond (le amount c0) (CurvedBridge (neg amount)) (Dispersion amount)

abbrev pub amount_of : StringNonLinearity → Float
amount_of (CurvedBridge a) = a
amount_of (Dispersion a) = a

-- 1/f0 held to what the line holds
unfoldable pub delay_of : Float → Float
delay_of f0 = clamp_f (c1 ⊘ f0) c4 c1020

-- the upsampler's ratio, which snaps to 1, and the phase with it
unfoldable pub ratio_of : Float → Float
ratio_of f0 = delay_of f0 ⊗ f0

abbrev pub snap : Float → Float → Float
snap ratio x = cond (le c0·9999 ratio) c1 x

-- the damping cutoff in semitones, and the damping frequency
unfoldable pub cutoff_of : Float → Float → Float
cutoff_of brightness damping = min_f (c12 ⊕ damping ⊗ damping ⊗ c60 ⊕ brightness ⊗ c24) c84

unfoldable pub damping_f : Float → Float → Float
damping_f f0 cutoff = min_f (f0 ⊗ semitones_to_ratio cutoff) c0·499

-- from 0.95 on they are crossfaded to infinite decay
unfoldable pub damping_of : Float → Float → Float → Damping
damping_of f0 brightness damping =
    let cutoff = cutoff_of brightness damping in
    let f = damping_f f0 cutoff in
    let i = c20 ⊗ (damping ⊖ c0·95) in
    cond (le c0·95 damping)
    (record { brightness = brightness ⊕ i ⊗ (c1 ⊖ brightness); f = f ⊕ i ⊗ (c0·4999 ⊖ f); cutoff = cutoff ⊕ i ⊗ (c128 ⊖ cutoff) })
    (record { brightness = brightness; f = f; cutoff = cutoff })

-- the shift table read at the cutoff, held to its indices
unfoldable pub compensation_of : Float → Float
compensation_of cutoff =
    let x = clamp_f cutoff c0 c255 in
    let i = whole_part x in
    crossfade (entry svf_shift i) (entry svf_shift (i + 1)) (fraction_of x)

unfoldable pub noise_amount_of : Float → Float
noise_amount_of amount = let root = cond (lt c0·75 amount) (c4 ⊗ (amount ⊖ c0·75)) c0 in root ⊗ root ⊗ c0·1

-- what a block of n frames has from its knobs
unfoldable pub params_of : String → Float → Float → Damping → ℕ → Params
params_of s f0 amount d n =
    let delay = delay_of f0 in
    record {
      src_ratio = snap (ratio_of f0) (ratio_of f0);
      increment = (interpolator_new s.delay (delay ⊗ compensation_of d.cutoff) n).increment;
      stretch_point = amount ⊗ (c2 ⊖ amount) ⊗ c0·225;
      stretch_correction = clamp_f (c160 ⊘ s.sample_rate_hz ⊗ delay) c1 c2·1;
      noise_amount = noise_amount_of amount;
      noise_filter = c0·06 ⊕ c0·94 ⊗ d.brightness ⊗ d.brightness;
      bridge_curving = amount ⊗ amount ⊗ c0·01;
      ap_gain = neg c0·618 ⊗ amount ⊘ (c0·15 ⊕ abs_f amount);
    }

-- the state with the phase snapped and the damping filter set
unfoldable pub tune : String → Float → Damping → String
tune s f0 d = record s { iir_damping_filter = svf_set_f_q s.iir_damping_filter d.f c0·5 Fast; src_phase = snap (ratio_of f0) s.src_phase }

-- both
unfoldable pub prepare : String → StringNonLinearity → Float → Float → Float → ℕ → Prepared
prepare s shape f0 brightness damping n =
    let d = damping_of f0 brightness damping in
    record { string = tune s f0 d; block = record { shape = shape; params = params_of s f0 (amount_of shape) d n } }

-- ---- a string step

-- the delay and the dispersion noise: the dispersion draws a word, the bridge none
unfoldable pub bend : StringNonLinearity → Params → Float → Float → Float → Draw (Float × Float)
bend (CurvedBridge a) p delay noise bridge = ret (delay ⊗ (c1 ⊖ bridge ⊗ p.bridge_curving), noise)
bend (Dispersion a) p delay noise bridge =
    ask (λ w. let n = one_pole noise (get_float w ⊖ c0·5) p.noise_filter in ret (delay ⊗ (c1 ⊕ n ⊗ p.noise_amount), n))

-- the string line read by the cubic
unfoldable pub read_plain : String → Float → List Float → Heard × List Float
read_plain s delay lines = (record { s = read_hermite (part 0 1024 lines) s.string delay; stretch = s.stretch }, lines)

-- the string line read in a straight line, and passed through the stretch line
unfoldable pub read_allpass : String → Float → Float → Float → List Float → Heard × List Float
read_allpass s main ap gain lines =
    let x = read_with_delay_frac (part 0 1024 lines) s.string main in
    let q = on_part 1024 256 (λ line. allpass line s.stretch x (whole_part ap) gain) lines in
    (record { s = q.0.out; stretch = q.0.write_ptr }, q.1)

unfoldable pub main_delay : Params → Float → Float
main_delay p delay = delay ⊖ delay ⊗ p.stretch_point ⊗ (c0·408 ⊖ p.stretch_point ⊗ c0·308) ⊗ p.stretch_correction

-- the all-pass is used only if both delays are >= 4
unfoldable pub stretches : StringNonLinearity → Params → Float → Bool
stretches (CurvedBridge a) p delay = false
stretches (Dispersion a) p delay = le c4 (delay ⊗ p.stretch_point) && le c4 (main_delay p delay)

-- what is read off the lines
unfoldable pub hear : StringNonLinearity → Params → String → Float → List Float → Heard × List Float
hear shape p s delay lines =
    cond (stretches shape p delay) (read_allpass s (main_delay p delay) (delay ⊗ p.stretch_point) p.ap_gain lines) (read_plain s delay lines)

-- the bridge's curve after a sample
unfoldable pub curve : StringNonLinearity → Float → Float → Float
curve (CurvedBridge a) s bridge =
    let value = abs_f s ⊖ c0·025 in
    (abs_f value ⊕ value) ⊗ cond (lt c0 s) c1 (neg c1·5)
curve (Dispersion a) s bridge = bridge

-- a step: the state and the lines after it
unfoldable pub step : StringNonLinearity → Params → Float → String × List Float → Draw (String × List Float)
step shape p x s =
    let t = s.0 in
    let delay = t.delay ⊕ p.increment in
    bend shape p delay t.dispersion_noise t.curved_bridge >>= λ b.
    let h = hear shape p t b.0 s.1 in
    let dc = dc_process_sample t.dc_blocker (h.0.s ⊕ clamp_f x (neg c20) c20) in
    let o = svf_process t.iir_damping_filter dc.y in
    let l = on_part 0 1024 (λ line. line_write line t.string o.1) h.1 in
    ret (
      record t {
        string = l.0;
        stretch = h.0.stretch;
        iir_damping_filter = o.0;
        dc_blocker = dc;
        delay = delay;
        dispersion_noise = b.1;
        curved_bridge = curve shape h.0.s t.curved_bridge;
        out_sample_0 = o.1;
        out_sample_1 = t.out_sample_0;
      },
      l.1,
    )

-- ---- the loop

-- a frame moves the phase, and steps where it passes 1
unfoldable pub advance : StringNonLinearity → Params → Float → String × List Float → Draw (String × List Float)
advance shape p x s =
    let phase = s.0.src_phase ⊕ p.src_ratio in
    cond (lt c1 phase) (step shape p x (record s.0 { src_phase = phase ⊖ c1 }, s.1)) (ret (record s.0 { src_phase = phase }, s.1))

-- the last two samples, crossfaded, are added to the output
unfoldable pub mix : Float → String → Float
mix y s = y ⊕ crossfade s.out_sample_1 s.out_sample_0 s.src_phase

abbrev pub frame : StringNonLinearity → Params → String × List Float → Float → Float → Draw ((String × List Float) × Float)
frame shape p s x y = advance shape p x s >>= λ t. ret (t, mix y t.0)

-- String::process, of the non-linearity chosen
unfoldable pub process : StringNonLinearity → Float → Float → Float → String × List Float → List Float → List Float → Draw ((String × List Float) × List Float)
process shape f0 brightness damping s xs ys =
    let b = prepare s.0 shape f0 brightness damping (length ys) in
    frames (frame b.block.shape b.block.params) (b.string, s.1) xs ys
