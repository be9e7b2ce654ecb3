-- The words ROW... plan LOT..., by the place of `plan`.
use Rattle.std.proofs.Common.{◌≡◌, ℕ, ◌+◌, List, take, drop, Some, Ok, Err, string_bytes, String, sym, ap, ◌∙◌}
use Rattle.std.specs.declared.alloc.Global.{Global}
use Rattle.std.proofs.lemmas.List.{take-map, drop-map}
use Rattle.item.specs.declared.records.Header.{Header}
use Rattle.item.specs.declared.records.Lot.{Lot}
use Rattle.item.specs.declared.records.Row.{Row}
use Rattle.item_words.specs.declared.mistakes.Misuse.{Misuse}
use Rattle.words.specs.declared.errors.CommandError.{CommandError}
use Rattle.words.specs.declared.errors.CommandError.TheVariants.{Memory, Misused}
use Rattle.item_words.specs.Items.{header_words, row_words, lot_words, plan_place, item_of, item_then, place_then, header_then_plan, plan_words, plan_in}
use Rattle.words.specs.Readings.{texts, Means}

module _ (ts : List (List ℕ)) (h : Header) (words before after : List (String Global)) (n : ℕ) (header : header_words ts ≡ Ok (h, texts words)) (place : Some n ≡ plan_place (texts words)) (before_is : before ≡ take n words) (after_is : after ≡ drop (n + 1) words) where
  planned : plan_words ts ≡ item_then (item_of h (row_words (texts before))) (lot_words (texts after))
  planned =
      ap header_then_plan header
      ∙ ap (place_then h (texts words)) (sym place)
      ∙ ap (λ ws. item_then (item_of h (row_words ws)) (lot_words (drop (n + 1) (texts words)))) (take-map string_bytes n words ∙ ap texts (sym before_is))
      ∙ ap (λ ws. item_then (item_of h (row_words (texts before))) (lot_words ws)) (drop-map string_bytes (n + 1) words ∙ ap texts (sym after_is))

  pub refused_rows : {V : Type 0} (held : V → List Row) (e : CommandError Misuse) → Means held (Err e) (row_words (texts before)) → Means plan_in (Err e) (plan_words ts)
  refused_rows held Memory m = tt
  refused_rows held (Misused e) m = planned ∙ ap (λ r. item_then (item_of h r) (lot_words (texts after))) m

  module _ (rows : List Row) (rows_are : row_words (texts before) ≡ Ok rows) where
    pub refused_plan : {V : Type 0} (held : V → List Lot) (e : CommandError Misuse) → Means held (Err e) (lot_words (texts after)) → Means plan_in (Err e) (plan_words ts)
    refused_plan held Memory m = tt
    refused_plan held (Misused e) m =
        planned ∙ ap (λ r. item_then (item_of h r) (lot_words (texts after))) rows_are ∙ ap (item_then (item_of h (Ok rows))) m

    pub all_planned : (lots : List Lot) → lot_words (texts after) ≡ Ok lots → plan_words ts ≡ Ok (record { item = record { header = h; rows = rows }; plan = lots })
    all_planned lots m =
        planned ∙ ap (λ r. item_then (item_of h r) (lot_words (texts after))) rows_are ∙ ap (item_then (item_of h (Ok rows))) m
