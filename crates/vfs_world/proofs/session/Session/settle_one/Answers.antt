use Rattle.std.proofs.Common.{◌≡◌, ℕ, Bool, List, Ok, Result, refl, subst, sym, true}
use Rattle.fidl_names.specs.declared.memory.NoMemory.{NoMemory}
use Rattle.message_queues.specs.Dying.{AreDeaths}
use Rattle.vfs_world.specs.Running.{whole}
use Rattle.vfs_world.proofs.Alone.{settles_alone}
use Rattle.vfs_world.proofs.Quiet.{settles_quietly}
use Rattle.vfs_world.proofs.Spared.{settles_giving, settles_spending, token_out}
use Rattle.vfs_world.proofs.session.Session.settle_one.Goals as goal

pub returns-then-is_quiet-clause-settled : goal.returns-then-is_quiet-clause-settled
returns-then-is_quiet-clause-settled c =
    λ is.
    (refl, λ bytes. settles_quietly (whole c.args.self.now) c.args.sent.now c.args.fate.now bytes (c.is_quiet.ensures c.if-is_quiet.true) c.requires.can.counted)

pub returns-then-is_lone_gift-clause-settled : goal.returns-then-is_lone_gift-clause-settled
returns-then-is_lone_gift-clause-settled c =
    λ is.
    settles_giving (whole c.args.self.now) c.give.new.endpoints c.args.sent.now c.args.fate.now (c.is_lone_gift.ensures c.if-is_lone_gift.true) c.requires.can.counted c.in_ok-give.ensures

pub forget-requires : goal.forget-requires
forget-requires c = record { out = token_out (whole c.args.self.now) c.args.sent.now c.args.fate.now c.in-Some.token c.in-Some.ensures c.requires.can }

pub returns-in-Some-clause-settled : goal.returns-in-Some-clause-settled
returns-in-Some-clause-settled c =
    λ is.
    settles_spending (whole c.args.self.now) c.forget.new.servers.items c.forget.new.endpoints c.args.sent.now c.args.fate.now c.in-Some.token c.in-Some.ensures c.requires.can.counted
    c.forget.ensures.forgets c.forget.ensures.known

was_true : (b : Bool) → ◌≡◌ {A = Result Bool NoMemory} (Ok b) (Ok true) → b ≡ true
was_true b e = cc

pub bury_unbound-requires : goal.bury_unbound-requires
bury_unbound-requires c =
    let refusal = c.in-Some-lone_refusal.ensures in
    record {
      live = λ dead died. c.requires.can.live dead (subst (λ (firsts : List ℕ). AreDeaths c.args.self.now.queues firsts dead) (sym refusal.lone.first) died);
      unbound = c.requires.can.unbound c.in-Some-lone_refusal.object refusal.refuses refusal.carried;
    }

pub returns-in-Some-lone_refusal-clause-settled : goal.returns-in-Some-lone_refusal-clause-settled
returns-in-Some-lone_refusal-clause-settled c =
    λ is.
    let dies = c.bury_unbound.ensures.alone (was_true c.bury_unbound.result is) in (
      dies.places,
      λ bytes.
          settles_alone (whole c.args.self.now) (whole c.bury_unbound.new.self) c.args.sent.now c.args.fate.now bytes c.in-Some-lone_refusal.object c.in-Some-lone_refusal.ensures.lone dies
          c.requires.can.counted,
    )

pub returns-in-Some-lone_end-clause-settled : goal.returns-in-Some-lone_end-clause-settled
returns-in-Some-lone_end-clause-settled c =
    λ is.
    let dies = c.bury_alone.ensures.alone (was_true c.bury_alone.result is) in (
      dies.places,
      λ bytes.
          settles_alone (whole c.args.self.now) (whole c.bury_alone.new.self) c.args.sent.now c.args.fate.now bytes c.in-Some-lone_end.end c.in-Some-lone_end.ensures dies c.requires.can.counted,
    )
