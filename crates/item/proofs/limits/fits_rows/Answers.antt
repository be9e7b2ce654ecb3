use Rattle.std.proofs.Common.{◌≡◌, ◌&&◌, List, [], ◌∷◌, nat_le, refl, ap, rules, tests, arith}
use Rattle.std.specs.List.{list_all}
use Rattle.std.proofs.lemmas.Iterator.{YieldsList-from_slice}
use Rattle.std.proofs.lemmas.Iterator.Search.{all_from_yields_List}
use Rattle.std.proofs.lemmas.Bool.Decides.{nat_tests}
use Rattle.item.specs.declared.records.Lot.{Lot}
use Rattle.item.specs.Limits.{most_amount, amounts_up_to}
use Rattle.item.proofs.limits.fits_rows.Goals as goal

amounts_as_all : (plan : List Lot) → list_all (λ (l : Lot). nat_le l.amount most_amount) plan ≡ amounts_up_to most_amount plan
amounts_as_all [] = refl
amounts_as_all (l ∷ ls) = ap (λ b. nat_le l.amount most_amount && b) (amounts_as_all ls)

pub returns-then-plan-count : goal.returns-then-plan-count
returns-then-plan-count c =
    let all = all_from_yields_List (λ (l : Lot). nat_le l.amount most_amount) _ _ c.all.result c.all.ensures.ran (YieldsList-from_slice c.args.plan.now cc) (λ x b q k. search (rules, tests)) in
    let same = amounts_as_all c.args.plan.now in
    grind (arith, nat_tests)
