use Rattle.std.proofs.Common.{◌≡◌, take, drop}
use Rattle.item.specs.Asked.{tell_all_answer, held_after_tell_all}
use Rattle.item.proofs.Tells.{and_rows}
use Rattle.item.proofs.asking.Item.fill.Given as goal

abbrev pub invariant-loop-row : goal.invariant-loop-row
invariant-loop-row g l =
    let m = g.R.ItemRule in
    (m.meaning l.rule ≡ m.meaning l.initial.rule) ×
    (m.held l.rule ≡ and_rows (take l.row-index l.self.rows.now) (m.held l.initial.rule)) ×
    (tell_all_answer l.self.rows.now (m.held l.initial.rule) ≡ tell_all_answer (drop l.row-index l.self.rows.now) (m.held l.rule)) ×
    (held_after_tell_all l.self.rows.now (m.held l.initial.rule) ≡ held_after_tell_all (drop l.row-index l.self.rows.now) (m.held l.rule))
