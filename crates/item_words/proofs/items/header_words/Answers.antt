use Rattle.std.proofs.Common.{◌≡◌, ◌∷◌, Some, refl, sym}
use Rattle.std.proofs.lemmas.Result.{err_from_is_err_and}
use Rattle.words.specs.Readings.{texts, number_below}
use Rattle.item_words.specs.declared.mistakes.Misuse.TheVariants.{NoRule, BadRule, NoOpening, BadOpening, NoForced, BadForced}
use Rattle.item_words.specs.Items.{forced_then, forced_word, header_words}
use Rattle.item_words.proofs.Headers.{given, refused, first_given, number_given}
use Rattle.item_words.proofs.items.header_words.Goals as goal
use Rattle.item_words.proofs.items.header_words.Goals.{In_ok-forced}

-- the words, once a rule and an opening stock were read and a third word was there
third : (c : In_ok-forced) → header_words (texts c.args.words.now) ≡ forced_then c.in_ok-rule-2.rule c.in_ok-opening-2.opening (forced_word c.in_ok-forced.forced.now) (texts c.in_ok-forced.words.now)
third c =
    let ts = texts c.args.words.now in
    let a : ts ≡ c.in_ok-rule.rule.now ∷ texts c.in_ok-rule.words.now = first_given ts c.first_word.result NoRule c.ok_or.result _ c.first_word.ensures c.ok_or.ensures.value c.in_ok-rule.was in
    let n : number_below 8 c.in_ok-rule.rule.now ≡ Some c.in_ok-rule-2.rule = number_given 8 c.in_ok-rule.rule.now c.number_word.result BadRule c.ok_or-2.result c.in_ok-rule-2.rule c.number_word.ensures c.ok_or-2.ensures.value c.in_ok-rule-2.was in
    let b : texts c.in_ok-rule.words.now ≡ c.in_ok-opening.opening.now ∷ texts c.in_ok-opening.words.now = first_given _ c.first_word-2.result NoOpening c.ok_or-3.result _ c.first_word-2.ensures c.ok_or-3.ensures.value c.in_ok-opening.was in
    let m : number_below 32 c.in_ok-opening.opening.now ≡ Some c.in_ok-opening-2.opening = number_given 32 c.in_ok-opening.opening.now c.number_word-2.result BadOpening c.ok_or-4.result c.in_ok-opening-2.opening c.number_word-2.ensures c.ok_or-4.ensures.value c.in_ok-opening-2.was in
    let d : texts c.in_ok-opening.words.now ≡ c.in_ok-forced.forced.now ∷ texts c.in_ok-forced.words.now = first_given _ c.first_word-3.result NoForced c.ok_or-5.result _ c.first_word-3.ensures c.ok_or-5.ensures.value c.in_ok-forced.was in
    rw (a, n, b, m, d) refl

pub returns-in_err-forced-2 : goal.returns-in_err-forced-2
returns-in_err-forced-2 c =
    let f = refused c.forced_word.result BadForced c.ok_or-6.result _ c.ok_or-6.ensures.value c.in_err-forced-2.was in
    let e : c.forced_word.result ≡ forced_word c.in_ok-forced.forced.now = c.forced_word.ensures in
    let p = err_from_is_err_and c.from_residual-in_err-forced-2.result c.from_residual-in_err-forced-2.ensures.1 in
    rw (p.1, p.2, f.1) (rw (third (goal.at.returns-in_err-forced-2 c).In_ok-forced, sym e, f.0) refl)

pub returns : goal.returns
returns c =
    let f : c.forced_word.result ≡ Some c.in_ok-forced-2.forced = given c.forced_word.result BadForced c.ok_or-6.result c.in_ok-forced-2.forced c.ok_or-6.ensures.value c.in_ok-forced-2.was in
    let e : c.forced_word.result ≡ forced_word c.in_ok-forced.forced.now = c.forced_word.ensures in
    rw (third (goal.at.returns c).In_ok-forced, sym e, f) refl
