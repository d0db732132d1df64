-- A Pick serves the endpoint where it is ready, and else nothing.
use Rattle.std.proofs.Common.{◌≡◌, ◌↔◌, Bool, true, false, IsTrue, refl}
use Rattle.vfs_world.proofs.session.Session.pick.Goals as goal

is_ready : (told : Bool) (Ready : Type 0) → (IsTrue told ↔ Ready) → told ≡ true → Ready
is_ready true Ready both is = both.0 is
is_ready false Ready both is = absurd (cc)

not_ready : (told : Bool) (Ready : Type 0) → (IsTrue told ↔ Ready) → told ≡ false → Ready → ⊥
not_ready true Ready both is ready = cc
not_ready false Ready both is ready = let wrong : false ≡ true = both.1 ready in cc

pub returns-then-not-is_ready-clause-picked : goal.returns-then-not-is_ready-clause-picked
returns-then-not-is_ready-clause-picked c = record { served = λ ready. absurd (not_ready c.is_ready.result _ c.is_ready.ensures c.if-not-is_ready.true ready); idle = λ _. (refl, refl) }

pub returns-then-not-is_ready-clause-only_idle : goal.returns-then-not-is_ready-clause-only_idle
returns-then-not-is_ready-clause-only_idle c = λ _. not_ready c.is_ready.result _ c.is_ready.ensures c.if-not-is_ready.true

pub returns-in_err-serve_head-clause-idle : goal.returns-in_err-serve_head-clause-idle
returns-in_err-serve_head-clause-idle c = λ idle. absurd (idle (is_ready c.is_ready.result _ c.is_ready.ensures c.if-not-is_ready.false))

pub returns-clause-picked : goal.returns-clause-picked
returns-clause-picked c = record {
  served = λ _. c.in_ok-serve_head.ensures.served;
  idle = λ idle. absurd (idle (is_ready c.is_ready.result _ c.is_ready.ensures c.if-not-is_ready.false));
}

pub returns-clause-idle : goal.returns-clause-idle
returns-clause-idle c = λ idle. absurd (idle (is_ready c.is_ready.result _ c.is_ready.ensures c.if-not-is_ready.false))
