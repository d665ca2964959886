-- Blocks of a modal voice. Assumes nothing.
use Rattle.std.specs.Prelude.{cond, ℕ, length}
use Rattle.ground.specs.Draw.{Draw, ret, ◌>>=◌}
use Rattle.noise.specs.declared.excitation.Knobs.{Knobs}
use Rattle.noise.specs.Buffers.{Bufs}
use Rattle.modal_voice.specs.declared.modal_voice.ModalVoice.{ModalVoice}
use Rattle.modal_voice.specs.ModalVoice.{voice_new, voice_init, render_of}
use Rattle.voices_abi.specs.Blocks.{times, alike_sizes}

-- a render of a voice, on what stands in the buffers
abbrev pub again : Knobs → ModalVoice × Bufs → Draw (ModalVoice × Bufs)
again k a =
    render_of k a.0 a.1.temp a.1.temp2 a.1.out a.1.aux >>= λ r.
    ret (r.voice, record { temp = r.temp; temp2 = r.temp2; out = r.out; aux = r.aux })

-- the buffers after blocks of a new voice, where they have one length
unfoldable pub modal_blocks : Knobs → ℕ → Bufs → Draw Bufs
modal_blocks k n b =
    cond (alike_sizes (length b.temp) (length b.temp2) (length b.out) (length b.aux))
    (times n (again k) (voice_init voice_new, b) >>= λ a. ret a.1)
    (ret b)
