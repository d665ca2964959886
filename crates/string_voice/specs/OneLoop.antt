-- Both halves' loops of a render as one: the excitation filter a frame ahead of the string. Assumes nothing.
use Rattle.std.specs.Prelude.{◌≡◌, List, ℕ, Float}
use Rattle.ground.specs.Draw.{Draw, run, ret, counted, ◌>>=◌}
use Rattle.ground.specs.Frames.{frames}
use Rattle.utils.specs.declared.filter.Svf.{Svf}
use Rattle.utils.specs.Filter.{svf_process_buffer}
use Rattle.noise.specs.declared.buffers.Buffers.{Buffers}
use Rattle.noise.specs.declared.excitation.Knobs.{Knobs}
use Rattle.noise.specs.declared.excitation.Rendered.{Rendered}
use Rattle.noise.specs.Buffers.{IsSame}
use Rattle.noise.specs.Excitation.{added}
use Rattle.waveguide.specs.declared.string.StringNonLinearity.{StringNonLinearity}
use Rattle.waveguide.specs.declared.string.Params.{Params}
use Rattle.waveguide.specs.declared.string.String.{String}
use Rattle.waveguide.specs.String.{frame}
use Rattle.string_voice.specs.declared.string_voice.StringVoice.{StringVoice}
use Rattle.string_voice.specs.StringVoice.{render_of}

-- what the loop leaves
pub record Framed : Type 0 where
  pub filter : Svf
  pub string : String
  pub lines : List Float
  pub temp2 : List Float
  pub out : List Float
  pub aux : List Float
  pub drawn : ℕ

-- the filter, the mix into aux, and the string, one after the other
unfoldable pub frames_of : StringNonLinearity → Params → Svf → String × List Float → List Float → List Float → List Float → List Float → Draw Framed
frames_of shape p f s temp temp2 out aux =
    let e = svf_process_buffer f temp temp2 in
    counted (frames (frame shape p) s e.1 out) >>= λ q.
    ret record { filter = e.0; string = q.0.0.0; lines = q.0.0.1; temp2 = e.1; out = q.0.1; aux = added e.1 aux; drawn = q.1 }

-- render_of the voice, its lines and what stands in the buffers gives the answer, the lines and what stands in the buffers now; they are those that were lent
pub record Renders (k : Knobs) (v : StringVoice) (lines : List Float) (b : Buffers) (word : ℕ) (r : Rendered StringVoice) (now : List Float)
    (c : Buffers) : Type 0 where
  pub all : run (render_of k v lines b.temp.now b.temp_2.now b.out.now b.aux.now) word ≡ record {
    value = record {
      voice = r.voice;
      lines = now;
      temp = c.temp.now;
      temp2 = c.temp_2.now;
      out = c.out.now;
      aux = c.aux.now;
      counts = r.counts;
    };
    word = r.word;
  }
  pub same : IsSame c b
