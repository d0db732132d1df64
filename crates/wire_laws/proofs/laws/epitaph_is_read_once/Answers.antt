use Rattle.std.proofs.Common.{◌≡◌, ℤ, Option, Some}
use Rattle.fidl_wire.specs.Epitaphs.{epitaph_of}
use Rattle.wire_laws.proofs.laws.epitaph_is_read_once.Goals as goal

same_status : (read : Option ℤ) (a b : ℤ) → read ≡ Some a → read ≡ Some b → a ≡ b
same_status read a b x y = cc

pub returns : goal.returns
returns c = λ bytes a b x y. same_status (epitaph_of bytes) a b x y
