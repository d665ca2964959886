-- `record::write_all` meets its contract.
use Rattle.std.proofs.Common.{arith, rules, ap, ℕ, ◌+◌, ◌*◌}
use Rattle.slot_bytes.proofs.Little.{room, written_begin, written_turn, each_more}
use Rattle.slot_bytes.proofs.record.write_all.Goals as goal

pub loop-i-init : goal.loop-i-init
loop-i-init g c = (search rules, written_begin c.args.k, tt)

pub loop-i-preserved : goal.loop-i-preserved
loop-i-preserved g c =
    let m = g.T.Record in
    let v = c.loop-i.invariant in
    let i = c.loop-i.i in
    let k = c.args.k in
    let ej = ap (λ (n : ℕ). k + n * i) c.WORDS.ensures in
    let r = room m.WORDS i g.row.N (omega arith) in
    let h = c.requires in (
      v.0,
      written_turn k m.WORDS g.met.T.Record.sized (k + c.WORDS.result * i) _ v.1 (omega arith) c.write.ensures.0 ej (omega arith),
      each_more m.is_f32
          c.args.a i _ (omega arith) v.2 c.write.ensures.1,
    )
