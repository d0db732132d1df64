use Rattle.std.proofs.Common.{◌≡◌, ◌∙◌, ◌++◌, ℕ, ℤ, List, [], ap, rules}
use Rattle.std.proofs.lemmas.Int.{to_z-of_z}
use Rattle.std.specs.Prelude.{FitsSigned}
use Rattle.std.specs.Int.{w32, cast_unsigned}
use Rattle.fidl_names.specs.Numbers.{number_bytes}
use Rattle.fidl_names.specs.StatusNumber.{number_of}
use Rattle.fidl_wire.specs.Epitaphs.{epitaph_header}
use Rattle.fidl_wire.specs.Headers.{header_bytes}
use Rattle.fidl_wire.specs.Written.{Written}
use Rattle.fidl_wire.proofs.epitaphs.epitaph.Goals as goal

joined : (out header status zeros first second third : List ℕ) → out ≡ [] → first ≡ out ++ header → second ≡ first ++ status → third ≡ second ++ zeros → third ≡ header ++ status ++ zeros
joined out header status zeros first second third none a b c =
    c ∙ ap (λ xs. xs ++ zeros) (b ∙ ap (λ xs. xs ++ status) (a ∙ ap (λ xs. xs ++ header) none))

pub returns-clause-bytes : goal.returns-clause-bytes
returns-clause-bytes c =
    let fits : FitsSigned w32 c.number.result = search rules in
    joined c.args.out.now.bytes (header_bytes epitaph_header) (number_bytes 4 (cast_unsigned w32 (number_of c.args.status))) (number_bytes 4 0) c.begin.new.self.bytes c.put_i32.new.self.bytes c.put_u32.new.self.bytes
    (ap (λ (out : Written). out.bytes) c.requires) c.begin.ensures.bytes
    (c.put_i32.ensures.bytes ∙ ap (λ (status : ℤ). c.begin.new.self.bytes ++ number_bytes 4 (cast_unsigned w32 status)) (to_z-of_z w32 c.number.result fits ∙ c.number.ensures)) c.put_u32.ensures.bytes
