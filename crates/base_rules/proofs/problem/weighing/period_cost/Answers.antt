use Rattle.std.proofs.Common.{◌≡◌, ℕ, ◌*◌, ◌≤◌, true, mul-le-mul, arith}
use Rattle.item.specs.declared.records.Row.{Row}
use Rattle.item.specs.Limits.{row_within}
use Rattle.base_rules.specs.Told.{limits}
use Rattle.base_rules.proofs.problem.weighing.period_cost.Goals as goal

costs_low : (r : Row) (amount over under : ℕ) → row_within r ≡ true → amount ≤ 3200000 → over ≤ 102400000 → under ≤ 3200000 → (r.setup ≤ 20000000000) × (r.unit * amount ≤ 640000000000000) × (r.hold * over ≤ 10240000000000000) × (r.short * under ≤ 320000000000000)
costs_low r amount over under w a b c =
    let l = limits r w in
    (l.setup, omega (arith, mul-le-mul l.unit a), omega (arith, mul-le-mul l.hold b), omega (arith, mul-le-mul l.short c))

pub overflow_add-result-2 : goal.overflow_add-result-2
overflow_add-result-2 c =
    let low = costs_low c.args.row.now c.from.result c.saturating_sub.result 0 c.requires.within (omega arith) (omega arith) (omega arith) in
    grind arith

pub overflow_add-result-3 : goal.overflow_add-result-3
overflow_add-result-3 c =
    let low = costs_low c.args.row.now c.from.result c.saturating_sub.result c.saturating_sub-2.result c.requires.within (omega arith) (omega arith) (omega arith) in
    grind arith

pub returns-clause-low : goal.returns-clause-low
returns-clause-low c =
    let low = costs_low c.args.row.now c.from.result c.saturating_sub.result c.saturating_sub-2.result c.requires.within (omega arith) (omega arith) (omega arith) in
    grind arith
