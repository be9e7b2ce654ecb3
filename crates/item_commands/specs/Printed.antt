-- What a verb and the words of an item are answered: a text, or what is wrong with them.
use Rattle.std.specs.Prelude.{ℕ, cond, List, [], ◌∷◌, Ok, Err, codes, Result}
use Rattle.std.specs.Str.{bytes_eq}
use Rattle.item_words.specs.declared.mistakes.Misuse.{Misuse}
use Rattle.item_words.specs.declared.mistakes.Misuse.TheVariants.{UnknownVerb}
use Rattle.item.specs.Asked.{item_least, item_verdict}
use Rattle.item_words.specs.Items.{Item, Planned, item_words, plan_words}
use Rattle.item_commands.specs.Rules.{rule_named, header_named}
use Rattle.item_commands.specs.Texts.{least_answer_text, verdict_answer_text, usage_text}

-- the answer about the least cost of an item, if the words make one
abbrev pub least_answer : Result Item Misuse → Result (List ℕ) Misuse
least_answer (Ok i) = Ok (least_answer_text (item_least (rule_named i.header) (header_named i.header) i.rows))
least_answer (Err m) = Err m

-- the answer about a plan for an item, if the words make one
abbrev pub plan_answer : Result Planned Misuse → Result (List ℕ) Misuse
plan_answer (Ok p) = Ok (verdict_answer_text (item_verdict (rule_named p.item.header) (header_named p.item.header) p.item.rows p.plan))
plan_answer (Err m) = Err m

-- the answer to the words after a verb
abbrev pub verb_answer : List ℕ → List (List ℕ) → Result (List ℕ) Misuse
verb_answer verb words =
    cond (bytes_eq verb (codes "least")) (least_answer (item_words words))
    (cond (bytes_eq verb (codes "weigh")) (plan_answer (plan_words words)) (Err UnknownVerb))

-- the answer to all the words: usage where there are none, else by the verb
abbrev pub answer : List (List ℕ) → Result (List ℕ) Misuse
answer [] = Ok usage_text
answer (verb ∷ words) = verb_answer verb words
