use Rattle.item_words.specs.Items.{fields, forced_fields}
use Rattle.item_words.proofs.Forced.{Sofar}
use Rattle.item_words.proofs.items.forced_periods.Given as goal

abbrev pub invariant-loop-field : goal.invariant-loop-field
invariant-loop-field l =
    (goal.iterator-loop-field).can_next l.field-iterator × (goal.iterator-loop-field).is_finite l.field-iterator
    × Sofar (forced_fields 0 (fields l.word)) l.forced l.lowest l.field-iterator
