-- Why a command was not carried out, in words.
use Rattle.std.specs.Prelude.{ℕ, List, ◌++◌, codes}
use Rattle.words.specs.declared.errors.CommandError.{CommandError}
use Rattle.words.specs.declared.errors.CommandError.TheVariants.{Memory, Misused}

-- one line: want of memory, or the mistake as `text` has it and where the usage is found
abbrev pub error_text : {M : Type 0} → (M → List ℕ) → List ℕ → CommandError M → List ℕ
error_text text usage Memory = codes "there is not enough memory"
error_text text usage (Misused m) = text m ++ (codes "; " ++ usage)
