use Rattle.std.proofs.Common.{◌≡◌, ◌+◌, length, drop, Some, vec_items, Vec, refl, sym, ◌∙◌, arith}
use Rattle.std.specs.declared.alloc.Global.{Global}
use Rattle.std.specs.List.{between}
use Rattle.std.proofs.lemmas.Slice.{between_to_end}
use Rattle.std.proofs.lemmas.Result.{err_from_is_err_and}
use Rattle.item.specs.declared.records.Lot.{Lot}
use Rattle.item.specs.declared.records.Row.{Row}
use Rattle.words.specs.Readings.{texts}
use Rattle.item_words.specs.Items.{plan_place}
use Rattle.item_words.specs.declared.mistakes.Misuse.TheVariants.{NoPlan}
use Rattle.item_words.proofs.Headers.{given}
use Rattle.item_words.proofs.Plans.{refused_rows, refused_plan, all_planned}
use Rattle.item_words.proofs.items.plan_request.Goals as goal
use Rattle.item_words.proofs.items.plan_request.Goals.{In_ok-place}

-- where `plan` stands, and what follows it
place : (c : In_ok-place) → Some c.in_ok-place.place ≡ plan_place (texts c.in_ok-header.words.now)
place c = sym (given c.plan_place.result NoPlan c.ok_or.result c.in_ok-place.place c.ok_or.ensures.value c.in_ok-place.was) ∙ c.plan_place.ensures.means

after : (c : In_ok-place) → between (c.in_ok-place.place + 1) (length c.in_ok-header.words.now) c.in_ok-header.words.now ≡ drop (c.in_ok-place.place + 1) c.in_ok-header.words.now
after c = between_to_end c.in_ok-header.words.now (c.in_ok-place.place + 1) (length c.in_ok-header.words.now) (omega arith)

pub returns-in_err-rows : goal.returns-in_err-rows
returns-in_err-rows c =
    let at = (goal.at.returns-in_err-rows c).In_ok-place in
    let p = err_from_is_err_and c.from_residual-in_err-rows.result c.from_residual-in_err-rows.ensures.1 in
    rw (p.1, p.2) (refused_rows (texts c.args.words.now) c.in_ok-header.header c.in_ok-header.words.now _ _ _ c.in_ok-header.ensures (place at) refl (after at) {V = Vec Row Global} vec_items _ c.in_err-rows.ensures)

pub returns-in_err-plan : goal.returns-in_err-plan
returns-in_err-plan c =
    let at = (goal.at.returns-in_err-plan c).In_ok-place in
    let p = err_from_is_err_and c.from_residual-in_err-plan.result c.from_residual-in_err-plan.ensures.1 in
    rw (p.1, p.2) (refused_plan (texts c.args.words.now) c.in_ok-header.header c.in_ok-header.words.now _ _ _ c.in_ok-header.ensures (place at) refl (after at) (vec_items c.in_ok-rows.rows) c.in_ok-rows.ensures {V = Vec Lot Global} vec_items _ c.in_err-plan.ensures)

pub returns : goal.returns
returns c =
    let at = (goal.at.returns c).In_ok-place in
    all_planned (texts c.args.words.now) c.in_ok-header.header c.in_ok-header.words.now _ _ _ c.in_ok-header.ensures (place at) refl (after at) (vec_items c.in_ok-rows.rows) c.in_ok-rows.ensures (vec_items c.in_ok-plan.plan) c.in_ok-plan.ensures
