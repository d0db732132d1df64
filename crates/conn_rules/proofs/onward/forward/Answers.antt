use Rattle.std.proofs.Common.{◌≡◌, ◌∙◌, sym, true, false, Result, Ok, Err, OnErr, OnOk, arith, rules}
use Rattle.std.specs.Result.{is_err}
use Rattle.conn_rules.proofs.Lengths.{onward_fits}
use Rattle.conn_rules.proofs.onward.forward.Goals as goal

of_err : {X E : Type 0} (r : Result X E) (P : Type 0) → is_err r ≡ true → OnErr r P → P
of_err (Ok x) P e h = search rules
of_err (Err x) P e h = h

pub unreachable-requires : goal.unreachable-requires
unreachable-requires c =
    let fits = onward_fits c.as_bytes.result.now c.word.result c.args.object c.as_bytes.ensures.path.short in
    let long = of_err c.write_request.result _ (sym c.is_err.ensures.value ∙ c.if-is_err.true) c.write_request.ensures.long in
    omega (arith, fits, long)

of_ok : {X E : Type 0} (r : Result X E) (P : Type 0) → is_err r ≡ false → OnOk r P → P
of_ok (Ok x) P e h = h
of_ok (Err x) P e h = search rules

pub returns : goal.returns
returns c =
    let done : is_err c.write_request.result ≡ false = sym c.is_err.ensures.value ∙ c.if-is_err.false in
    let bytes = of_ok c.write_request.result _ done c.write_request.ensures.bytes in
    let handles = of_ok c.write_request.result _ done c.write_request.ensures.handles in
    record {
      bytes = search rules;
      handles = search rules;
    }
