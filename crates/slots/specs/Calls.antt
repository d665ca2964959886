-- A call for one voice: a slot's record beside its 1,280 numbers of line memory. Assumes nothing.
use Rattle.std.specs.Prelude.{List, [], ℕ, zero, suc, T, Float}
use Rattle.std.specs.Float.{binary32}
use Rattle.std.specs.Float.Ieee.{fits}
use Rattle.ground.specs.Draw.{Draw, ret, ◌>>=◌}
use Rattle.noise.specs.declared.excitation.Knobs.{Knobs}
use Rattle.noise.specs.declared.excitation.Counts.{Counts}
pub use Rattle.noise.specs.Buffers.{Bufs}
use Rattle.string_voice.specs.StringVoice as string
use Rattle.modal_voice.specs.ModalVoice as modal
use Rattle.slots.specs.declared.slots.Slot.{Slot}
use Rattle.slots.specs.Answers.{no_counts}
use Rattle.slots.specs.Slots.{opened}

-- what a call asks of a slot
pub data Act : Type 0 where
  opening : ℕ → Float → Act
  reset : Act
  render : Knobs → Bufs → Act

-- a structure is an f32, as every knob is: of another number just above 0.26 the amount of the dispersion would round to 0
abbrev pub InF32 : Act → Type 0
InF32 (opening kind rate) = Unit {0}
InF32 reset = Unit {0}
InF32 (render k b) = T (fits binary32 k.structure)

-- the buffers as lent: an opening and a reset have none
abbrev pub lent : Act → Bufs
lent (opening kind rate) = record { temp = []; temp2 = []; out = []; aux = [] }
lent reset = record { temp = []; temp2 = []; out = []; aux = [] }
lent (render k b) = b

pub record Voice : Type 0 where
  pub slot : Slot
  pub lines : List Float

-- what a call leaves: the voice, the buffers, and the words that it drew
pub record Done : Type 0 where
  pub voice : Voice
  pub bufs : Bufs
  pub counts : Counts

-- opening clears the lines, for either kind
unfoldable pub open_def : ℕ → Float → Voice → Done
open_def kind rate v =
    let o = opened kind rate v.lines in
    record {
      voice = record { slot = o.0; lines = o.1 };
      bufs = lent (opening kind rate);
      counts = no_counts;
    }

unfoldable pub reset_def : Voice → Done
reset_def v =
    let s = string.voice_reset v.slot.string v.lines in
    record {
      voice = record { slot = record v.slot { string = s.0 }; lines = s.1 };
      bufs = lent reset;
      counts = no_counts;
    }

unfoldable pub string_def : Knobs → Bufs → Voice → Draw Done
string_def k b v =
    string.render_of k v.slot.string v.lines b.temp b.temp2 b.out b.aux >>= λ a.
    ret record {
      voice = record { slot = record v.slot { string = a.voice }; lines = a.lines };
      bufs = record { temp = a.temp; temp2 = a.temp2; out = a.out; aux = a.aux };
      counts = a.counts;
    }

unfoldable pub modal_def : Knobs → Bufs → Voice → Draw Done
modal_def k b v =
    modal.render_of k v.slot.modal b.temp b.temp2 b.out b.aux >>= λ a.
    ret record {
      voice = record v { slot = record v.slot { modal = a.voice } };
      bufs = record { temp = a.temp; temp2 = a.temp2; out = a.out; aux = a.aux };
      counts = a.counts;
    }

-- a render by the slot's kind; an empty slot has none, and the table refuses it
unfoldable pub render_def : ℕ → Knobs → Bufs → Voice → Draw Done
render_def zero k b v = ret record { voice = v; bufs = b; counts = no_counts }
render_def (suc zero) k b v = string_def k b v
render_def (suc (suc n)) k b v = modal_def k b v

-- demand 2's definition of a call for one voice
unfoldable pub act_def : Act → Voice → Draw Done
act_def (opening kind rate) v = ret (open_def kind rate v)
act_def reset v = ret (reset_def v)
act_def (render k b) v = render_def v.slot.kind k b v
