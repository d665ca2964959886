-- `modal_voice::filter_frames` meets its contract: a filter that settles is its memory's loop.
use mathlib.Core.Path.{◌∙◌, ap}
use Rattle.modes.specs.Resonator.{svf_process_low}
use Rattle.modal_voice.specs.declared.modal_voice.LowPass.{LowPass}
use Rattle.modal_voice.proofs.OneLoop.{settled}
use Rattle.modal_voice.proofs.modal_voice.filter_frames.Goals as goal

pub returns-then-around : goal.returns-then-around
returns-then-around c =
    let a = c.args in
    settled c.around.result a.temp.now a.temp_2.now c.settle.ensures ∙ ap (λ (f : LowPass 1). svf_process_low f.mode f.svf a.temp.now a.temp_2.now) c.around.ensures

pub returns-else-around : goal.returns-else-around
returns-else-around c = settled c.args.filter c.args.temp.now c.args.temp_2.now c.settle-else-around.ensures
