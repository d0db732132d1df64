use Rattle.std.proofs.Common.{List, Option, None, option_map, length-append, refl, arith}
use Rattle.fidl_names.specs.declared.limits.TheConstants as limit
use Rattle.fidl_wire.specs.declared.kinds.Member.{Member}
use Rattle.fidl_wire.specs.Spelling.{member_part, members_part}
use Rattle.fidl_wire.specs.Told.{told, all_told}
use Rattle.io_messages.proofs.Lengths.{room_first, told-within}
use Rattle.io_messages.proofs.fields.put_envelopes.Goals as goal

pub put_envelope-requires : goal.put_envelope-requires
put_envelope-requires c =
    let all : List (Option Member) → List _ = λ xs. (members_part (all_told xs)).inline in
    record {
      room = room_first all (λ (x : Option Member). (member_part (option_map told x)).inline) (λ x xs. refl) c.loop-member.out.bytes _ c.args.members.now c.loop-member.member-index limit.MAX_BYTES None c.loop-member-test.true c.loop-member.invariant.all
          (omega (arith, c.requires.room, length-append c.args.out.now.bytes (all c.args.members.now)));
      held = told-within c.args.members.now c.loop-member.member-index limit.MAX_BYTES c.loop-member-test.true c.requires.held;
    }
