use Rattle.std.proofs.Common.{Some, None, arith}
use Rattle.std.proofs.lemmas.Str.Pattern.{strip_suffix_char}
use Rattle.item_words.proofs.Marks.{lot_dash, lot_marked, lot_plain}
use Rattle.item_words.proofs.items.lot_word.Goals as goal

pub returns-then-eq : goal.returns-then-eq
returns-then-eq c = lot_dash c.args.word.now c.if-eq.ensures

pub returns-in-Some : goal.returns-in-Some
returns-in-Some c =
    lot_marked c.args.word.now c.in-Some.amount.now c.lot_of.result c.if-eq.ensures
    (strip_suffix_char 33 c.args.word.now (Some c.in-Some.amount) c.in-Some.ensures.cases (omega arith)) c.lot_of.ensures

pub returns-in-None : goal.returns-in-None
returns-in-None c =
    lot_plain c.args.word.now c.lot_of-in-None.result c.if-eq.ensures
    (strip_suffix_char 33 c.args.word.now None c.in-None.ensures.cases (omega arith)) c.lot_of-in-None.ensures
