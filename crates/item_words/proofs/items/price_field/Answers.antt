use Rattle.std.proofs.Common.{Some, None, sym, arith}
use Rattle.std.proofs.lemmas.Str.Pattern.{split_parts}
use Rattle.item_words.proofs.Commas.{price_first, no_price_field}
use Rattle.item_words.proofs.items.price_field.Goals as goal

pub returns-in_err-field : goal.returns-in_err-field
returns-in_err-field c =
    rw c.from_residual.ensures (sym (no_price_field c.args.text.now (split_parts 44 c.args.text.now None c.in_err-field.ensures.cases (omega arith))))

pub returns-in_err-price : goal.returns-in_err-price
returns-in_err-price c =
    let q = split_parts 44 c.args.text.now (Some (c.in_ok-field.field, c.in_ok-field.rest)) c.in_ok-field.ensures.cases (omega arith) in
    rw c.from_residual-in_err-price.ensures
    (price_first c.args.text.now c.in_ok-field.field.now c.in_ok-field.rest.now None q.0 q.1 c.in_err-price.ensures)

pub returns : goal.returns
returns c =
    let q = split_parts 44 c.args.text.now (Some (c.in_ok-field.field, c.in_ok-field.rest)) c.in_ok-field.ensures.cases (omega arith) in
    price_first c.args.text.now c.in_ok-field.field.now c.in_ok-field.rest.now (Some c.in_ok-price.price) q.0 q.1 c.in_ok-price.ensures
