use Rattle.std.proofs.Common.{option_map}
use Rattle.fidl_names.specs.declared.methods.Handle.TheVariants.{Token}
use Rattle.fidl_wire.specs.declared.kinds.HandleKind.TheVariants.{AToken}
use Rattle.wire_laws.proofs.Leaving.{between_names, token_there}
use Rattle.request_reader.proofs.Taking.{first_part, next_part}
use Rattle.request_reader.proofs.fields.take_names.Goals as goal

pub unwrap-token-requires : goal.unwrap-token-requires
unwrap-token-requires c = token_there AToken c.string.new.self c.token.new.self c.in_ok-token.field-0 c.in_ok-token.ensures.value

pub returns-clause-first : goal.returns-clause-first
returns-clause-first c = first_part 56 _ _ c.requires c.in_ok-src.ensures.part

pub returns-clause-second : goal.returns-clause-second
returns-clause-second c =
    let passes = between_names _ c.string.new.self c.token.new.self c.pad.new.self c.in_ok-src.src.now AToken (option_map Token c.in_ok-token.field-0) 4
    c.requires.within c.in_ok-src.ensures.value c.in_ok-token.ensures.value c.in_ok-pad.ensures.value in
    next_part 56 _ _ _ _ c.requires passes c.in_ok-dst.ensures.part
