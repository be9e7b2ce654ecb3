use Rattle.std.proofs.Common.{ap, ◌∙◌}
use Rattle.std.specs.Str.Iter.{split_text, split_has_more, split_pattern}
use Rattle.item_words.specs.Items.{fields, forced_fields}
use Rattle.item_words.proofs.Forced.{none_forced, one_forced, bad_period, all_forced}
use Rattle.item_words.proofs.items.forced_periods.Goals as goal

pub loop-field-init : goal.loop-field-init
loop-field-init c =
    let b = c.into_iter-field-iterator.ensures.into_iter_gives in (
      tt,
      tt,
      none_forced c.args.word.now c.into_iter-field-iterator.result (ap split_pattern b ∙ c.split-field-items.ensures.pattern) (ap split_text b ∙ c.split-field-items.ensures.text) (ap split_has_more b ∙ c.split-field-items.ensures.has_more),
    )

pub returns-in_err-period : goal.returns-in_err-period
returns-in_err-period c =
    rw c.from_residual.ensures
    (bad_period _ _ _ _ c.loop-field.invariant.2 c.in-Some.field.now c.next.new.self c.in-Some.ensures.steps.0 c.in-Some.ensures.steps.1.0 c.in-Some.ensures.steps.1.1 c.in_err-period.ensures.means)

pub loop-field-preserved : goal.loop-field-preserved
loop-field-preserved c = (
  tt,
  tt,
  one_forced (forced_fields 0 (fields c.args.word.now)) c.loop-field.forced c.loop-field.lowest c.loop-field.field-iterator c.loop-field.invariant.2 c.in-Some.field.now c.next.new.self
      c.in-Some.ensures.steps.0 c.in-Some.ensures.steps.1.0 c.in-Some.ensures.steps.1.1
      c.in_ok-period.period c.in_ok-period.ensures.means c.in_ok-period.ensures.within.0 c.in_ok-period.ensures.within.1,
)

pub returns : goal.returns
returns c = all_forced _ _ _ _ c.loop-field.invariant.2 c.in-None.ensures.steps.0
