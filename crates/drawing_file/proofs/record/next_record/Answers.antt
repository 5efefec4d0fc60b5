use Rattle.std.proofs.Common.{◌≡◌, ◌+◌, ◌*◌, get_or, Ok, sym, subst, arith}
use Rattle.std.proofs.lemmas.Result.{err_from_is_err_and}
use Rattle.drawing_file.specs.Format.{First, Fronts, first_of, item}
use Rattle.drawing_file.proofs.Fronts.{fronts}
use Rattle.drawing_file.proofs.Parts.{framed}
use Rattle.drawing_file.proofs.record.next_record.Goals as goal

pub returns-in_err-record_of-in-Some : goal.returns-in_err-record_of-in-Some
returns-in_err-record_of-in-Some c =
    let b = c.args.bytes.now in
    let p = err_from_is_err_and c.from_residual.result c.from_residual.ensures.1 in
    let n : c.from-n.result ≡ get_or b 1 0 * 256 + get_or b 2 0 = omega (arith, c.from-n.ensures, c.from_be_bytes.ensures) in
    rw (p.1, p.2) (record { read = framed b _ _ _ _ c.in-len3-up.len_at_least n c.in-Some.ensures.cases c.in_err-record_of-in-Some.ensures; front = tt })

pub returns-in_ok-record_of-in-Some : goal.returns-in_ok-record_of-in-Some
returns-in_ok-record_of-in-Some c =
    let b = c.args.bytes.now in
    let n : c.from-n.result ≡ get_or b 1 0 * 256 + get_or b 2 0 = omega (arith, c.from-n.ensures, c.from_be_bytes.ensures) in
    let first : First = record { item = item c.in_ok-record_of-in-Some.field-0; after = c.in-Some.rest.now } in
    let read : Ok first ≡ first_of b = framed b _ _ _ _ c.in-len3-up.len_at_least n c.in-Some.ensures.cases c.in_ok-record_of-in-Some.ensures in
    record { read = read; front = subst (Fronts b) (sym read) (fronts b (c.type_inv.bytes 2).fits) }
