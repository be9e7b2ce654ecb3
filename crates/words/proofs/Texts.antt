-- The texts of no words.
use Rattle.std.proofs.Common.{◌≡◌, ◌<◌, List, [], ◌∷◌, length, String, refl, arith}
use Rattle.std.specs.declared.alloc.Global.{Global}
use Rattle.words.specs.Readings.{texts}

pub no_words : (words : List (String Global)) → length words < 1 → texts words ≡ []
no_words [] h = refl
no_words (w ∷ ws) h = absurd (omega arith)
