-- What the program answers to its words: a text, or what is wrong with them.
use Rattle.std.specs.Prelude.{ℕ, cond, List, [], ◌∷◌, pos, Ok, Err, codes, Result}
use Rattle.std.specs.Str.{bytes_eq}
use Rattle.commands.specs.declared.mistakes.Misuse.{Misuse}
use Rattle.commands.specs.declared.mistakes.Misuse.TheVariants.{UnknownVerb}
use Rattle.commands.specs.Ledger.{out_and_back}
use Rattle.commands.specs.Meanings.{Minute, minute_words}
use Rattle.commands.specs.Texts.{statement_text, usage_text}

-- the statement of a request: charged out from zero and handed back, it closes at zero, and so does its whole
abbrev pub closed_text : Minute → List ℕ
closed_text m = statement_text m.scale (out_and_back (pos 0) m.worths) (pos 0) (pos 0)

-- the answer to a request, if the words make one
abbrev pub minute_answer : Result Minute Misuse → Result (List ℕ) Misuse
minute_answer (Ok m) = Ok (closed_text m)
minute_answer (Err m) = Err m

-- the answer to all the words: usage where there are none, else by the verb
abbrev pub answer : List (List ℕ) → Result (List ℕ) Misuse
answer [] = Ok usage_text
answer (verb ∷ words) = cond (bytes_eq verb (codes "minute")) (minute_answer (minute_words words)) (Err UnknownVerb)
