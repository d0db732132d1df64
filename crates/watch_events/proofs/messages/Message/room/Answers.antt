use Rattle.std.proofs.Common.{◌≡◌, ◌∙◌, ap, arith, length, sym}
use Rattle.std.proofs.lemmas.List.{length-take-le}
use Rattle.watch_events.proofs.messages.Message.room.Goals as goal

pub returns : goal.returns
returns c =
    let size : length c.args.self.now ≡ c.self.inside.len = sym (ap length c.self.view_is) ∙ length-take-le c.self.inside.len c.self.inside.bytes (omega arith) in
    omega (arith, size)
