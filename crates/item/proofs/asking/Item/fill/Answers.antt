use Rattle.std.proofs.Common.{get_or, take, drop, Err, sym, ap, ◌∙◌}
use Rattle.std.proofs.lemmas.List.{take_all}
use Rattle.std.proofs.lemmas.Result.{err_from_is_err_and}
use Rattle.item.specs.Asked.{tell_all_answer, held_after_tell_all}
use Rattle.item.specs.Meanings.{opened}
use Rattle.item.proofs.Tells.{Known, known_by, and_rows, tell_on, tell_stop, tell_holds, tell_end, leaves_on, leaves_stop, leaves_end, refused_held}
use Rattle.item.proofs.asking.Item.fill.Given as given
use Rattle.item.proofs.asking.Item.fill.Goals as goal
use Rattle.item.proofs.asking.Item.fill.Goals.{In_ok-open}

first : (g : given.Over) (c : In_ok-open g) → Known (g.R.ItemRule.meaning c.args.rule.now) c.args.self.now.header (g.R.ItemRule.held c.args.rule.now) (g.R.ItemRule.held c.open.new.self) c.args.self.now.rows.now
first g c = known_by (g.R.ItemRule.meaning c.args.rule.now) c.args.self.now.header (g.R.ItemRule.held c.args.rule.now) _ c.args.self.now.rows.now _ c.in_ok-open.ensures.says c.in_ok-open.ensures.holds

pub loop-row-preserved : goal.loop-row-preserved
loop-row-preserved g c =
    let m = g.R.ItemRule in
    let rows = c.args.self.now.rows.now in
    let told = c.in_ok-tell.ensures in
    let i = c.loop-row.row-index in
    let h = m.held c.loop-row.rule in (
      told.same ∙ c.loop-row.invariant.0,
      told.holds ∙ tell_holds rows i _ c.loop-row-test.true h (m.held c.open.new.self) _ c.loop-row.invariant.1 told.says,
      c.loop-row.invariant.2 ∙ tell_on rows i _ c.loop-row-test.true h _ told.says ∙ ap (tell_all_answer (drop _ rows)) (sym told.holds),
      c.loop-row.invariant.3 ∙ leaves_on rows i _ c.loop-row-test.true h _ told.says ∙ ap (held_after_tell_all (drop _ rows)) (sym told.holds),
    )

pub returns-in_err-tell-clause-says : goal.returns-in_err-tell-clause-says
returns-in_err-tell-clause-says g c =
    let p = err_from_is_err_and c.from_residual-in_err-tell.result c.from_residual-in_err-tell.ensures.1 in
    let k = first g (goal.at.returns-in_err-tell-clause-says g c).In_ok-open in
    let stop = tell_stop c.args.self.now.rows.now c.loop-row.row-index _ c.loop-row-test.true (g.R.ItemRule.held c.loop-row.rule) _ c.in_err-tell.ensures.says in
    p.1 ∙ ap Err p.2 ∙ sym (k.says ∙ c.loop-row.invariant.2 ∙ stop)

pub returns-in_err-tell-clause-holds : goal.returns-in_err-tell-clause-holds
returns-in_err-tell-clause-holds g c =
    let k = first g (goal.at.returns-in_err-tell-clause-holds g c).In_ok-open in
    let told = c.in_err-tell.ensures in
    let h = g.R.ItemRule.held c.loop-row.rule in
    let stop = leaves_stop c.args.self.now.rows.now c.loop-row.row-index _ c.loop-row-test.true h _ told.says in
    told.holds ∙ refused_held (get_or c.args.self.now.rows.now c.loop-row.row-index _) h _ told.says ∙ sym (k.leaves ∙ c.loop-row.invariant.3 ∙ stop)

pub returns-clause-says : goal.returns-clause-says
returns-clause-says g c =
    let k = first g (goal.at.returns-clause-says g c).In_ok-open in
    sym (k.says ∙ c.loop-row.invariant.2 ∙ tell_end c.args.self.now.rows.now c.loop-row.row-index _ c.loop-row-test.false)

pub returns-clause-holds : goal.returns-clause-holds
returns-clause-holds g c =
    let k = first g (goal.at.returns-clause-holds g c).In_ok-open in
    sym (k.leaves ∙ c.loop-row.invariant.3 ∙ leaves_end c.args.self.now.rows.now c.loop-row.row-index _ c.loop-row-test.false)

pub returns-clause-fills : goal.returns-clause-fills
returns-clause-fills g c _ =
    let rows = c.args.self.now.rows.now in
    let k = first g (goal.at.returns-clause-fills g c).In_ok-open in
    c.loop-row.invariant.1 ∙ ap (and_rows (take c.loop-row.row-index rows)) k.holds ∙ ap (opened c.args.self.now.header) (take_all c.loop-row.row-index rows c.loop-row-test.false)
