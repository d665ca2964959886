-- Blocks of a string voice. Assumes nothing.
use Rattle.std.specs.Prelude.{Bool, cond, ◌&&◌, List, ℕ, eqb, length, Float}
use Rattle.ground.specs.Draw.{Draw, ret, ◌>>=◌}
use Rattle.noise.specs.declared.excitation.Knobs.{Knobs}
use Rattle.noise.specs.Buffers.{Bufs}
use Rattle.string_voice.specs.declared.string_voice.StringVoice.{StringVoice}
use Rattle.string_voice.specs.StringVoice.{voice_new, voice_init, render_of}
use Rattle.voices_abi.specs.Blocks.{times, alike_sizes}

-- a render of a voice with its lines, on what stands in the buffers
abbrev pub again : Knobs → (StringVoice × List Float) × Bufs → Draw ((StringVoice × List Float) × Bufs)
again k a =
    render_of k a.0.0 a.0.1 a.1.temp a.1.temp2 a.1.out a.1.aux >>= λ r.
    ret ((r.voice, r.lines), record { temp = r.temp; temp2 = r.temp2; out = r.out; aux = r.aux })

abbrev pub sizes_fit : ℕ → ℕ → ℕ → ℕ → ℕ → Bool
sizes_fit lines temp temp2 out aux = eqb lines 1280 && alike_sizes temp temp2 out aux

-- the lines and the buffers after blocks of a new voice, where the sizes are a voice's
unfoldable pub blocks_of : Float → Knobs → ℕ → List Float → Bufs → Draw (List Float × Bufs)
blocks_of rate k n lines b =
    cond (sizes_fit (length lines) (length b.temp) (length b.temp2) (length b.out) (length b.aux))
    (times n (again k) (voice_init voice_new rate lines, b) >>= λ a. ret (a.0.1, a.1))
    (ret (lines, b))
