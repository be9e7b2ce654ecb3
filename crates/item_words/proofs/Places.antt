-- Where the word `plan` stands.
use Rattle.std.proofs.Common.{◌≡◌, Bool, List, [], ◌∷◌, string_bytes, codes, String, refl}
use Rattle.std.proofs.lemmas.List.{length-map}
use Rattle.std.specs.declared.alloc.Global.{Global}
use Rattle.std.specs.List.{position, position_or_len}
use Rattle.std.specs.Str.{bytes_eq}
use Rattle.words.specs.Readings.{texts}
use Rattle.item_words.specs.Items.{plan_place}

-- a word is `plan`
abbrev pub is_plan : String Global → Bool
is_plan w = bytes_eq (string_bytes w) (codes "plan")

first_text : (words : List (String Global)) → position_or_len is_plan words ≡ position_or_len (λ w. bytes_eq w (codes "plan")) (texts words)
first_text [] = refl
first_text (w ∷ ws) = let i = first_text ws in rw i refl

pub place_is : (words : List (String Global)) → position is_plan words ≡ plan_place (texts words)
place_is words = let i = first_text words in let l = length-map words string_bytes in rw (i, l) refl
