use Rattle.std.proofs.Common.{◌≡◌, ◌∙◌, ◌+◌, ◌++◌, ℕ, List, fold, sym, ap, subst, arith}
use Rattle.link_admission.specs.Standings.{Known, ended, gone}
use Rattle.vfs_journal.specs.Entries.{Sent, tokens_in}
use Rattle.message_queues.specs.Queues.{IsAbove, count}
use Rattle.vfs_server.specs.Servers.{Server}
use Rattle.vfs_world.specs.ServingSteps.{CanGo, ForgetsAll, SendsOn, known_told, spent_told}
use Rattle.vfs_world.proofs.Halves.{above_left, known_then, one_at_most, settled_known}
use Rattle.vfs_world.proofs.Spending.{can_go_alike, ended_tokens}
use Rattle.vfs_world.proofs.session.Session.settle_all.Goals as goal

pub spend-requires : goal.spend-requires
spend-requires c =
    let died = c.in_ok-dropped.ensures.dead in
    record {
      out =
          subst (λ (tokens : List ℕ). CanGo c.let_die.new.self.endpoints (tokens_in c.args.sent.now ++ tokens)) (sym (c.deref.ensures.value ∙ died.tokens))
          (can_go_alike (spent_told c.args.sent.now c.args.self.now.queues died.dead) c.args.self.now.endpoints c.let_die.new.self.endpoints
          (sym (ap (λ (k : Known). k.tokens) died.known ∙ ended_tokens died.dead c.args.self.now.endpoints)) (c.requires.can.out died.dead died.died));
    }

pub send_on-requires-clause-newest : goal.send_on-requires-clause-newest
send_on-requires-clause-newest c =
    subst (λ (n : ℕ). IsAbove c.let_die.new.self.queues (n + 1)) (sym c.in_ok-dropped.ensures.dead.places)
    (above_left c.args.self.now.queues c.let_die.new.self.queues c.in_ok-dropped.ensures.dead.dead c.args.self.now.places c.requires.can.newest c.in_ok-dropped.ensures.dead.buried)

pub send_on-requires-clause-counted : goal.send_on-requires-clause-counted
send_on-requires-clause-counted c =
    let died = c.in_ok-dropped.ensures.dead in
    sym (ap (λ (k : Known). k.waiting)
    (settled_known c.args.self.now.endpoints c.let_die.new.self.endpoints c.spend.new.endpoints c.give.new.endpoints c.args.fate died.dead (tokens_in c.args.sent.now ++ c.deref.result.now) (spent_told c.args.sent.now c.args.self.now.queues died.dead)
    (count c.let_die.new.self.queues) died.known (ap (λ (tokens : List ℕ). tokens_in c.args.sent.now ++ tokens) (c.deref.ensures.value ∙ died.tokens)) c.spend.ensures.known c.in_ok-give.ensures))

pub overflow_add-self : goal.overflow_add-self
overflow_add-self c = let few = c.requires.can.places in let p = c.in_ok-dropped.ensures.dead.places in let a = c.in_ok-more.ensures.count in let b = one_at_most c.args.fate in omega (arith, few, p, a, b)

pub returns-clause-settled : goal.returns-clause-settled
returns-clause-settled c =
    let died = c.in_ok-dropped.ensures.dead in
    let spent : tokens_in c.args.sent.now ++ c.deref.result.now ≡ spent_told c.args.sent.now c.args.self.now.queues died.dead = ap (λ (tokens : List ℕ). tokens_in c.args.sent.now ++ tokens) (c.deref.ensures.value ∙ died.tokens) in
    record {
      dead = died.dead;
      left = c.let_die.new.self.queues;
      those = c.let_die.new.self.servers.items;
      died = died.died;
      buried = died.buried;
      goes = died.goes;
      forgets =
          subst (λ (servers : List Server). ForgetsAll c.let_die.new.self.servers.items (spent_told c.args.sent.now c.args.self.now.queues died.dead) servers) (sym c.send_on.ensures.servers)
          (subst (λ (tokens : List ℕ). ForgetsAll c.let_die.new.self.servers.items tokens c.spend.new.servers.items) spent c.spend.ensures.forgets);
      closed = died.closed;
      sends =
          subst (λ (origin : ℕ). SendsOn (c.args.self.now.places + 1) origin c.args.fate c.let_die.new.self.queues c.send_on.new.self.queues) (ap (λ (sent : Sent). sent.place) c.sent.view_is)
          (subst (λ (n : ℕ). SendsOn (n + 1) c.sent.inside.place c.args.fate c.let_die.new.self.queues c.send_on.new.self.queues) died.places c.in_ok-more.ensures.sent);
      known =
          known_then (known_told c.args.fate (fold gone (fold ended c.args.self.now.endpoints died.dead) (spent_told c.args.sent.now c.args.self.now.queues died.dead))) c.give.new.endpoints c.send_on.new.self.endpoints (count c.let_die.new.self.queues)
          (count c.send_on.new.self.queues)
          (settled_known c.args.self.now.endpoints c.let_die.new.self.endpoints c.spend.new.endpoints c.give.new.endpoints c.args.fate died.dead (tokens_in c.args.sent.now ++ c.deref.result.now)
          (spent_told c.args.sent.now c.args.self.now.queues died.dead) (count c.let_die.new.self.queues) died.known spent c.spend.ensures.known c.in_ok-give.ensures)
          c.in_ok-more.ensures.known;
      places = let p = died.places in let a = c.in_ok-more.ensures.count in omega (arith, p, a);
    }

pub let_die-requires-clause-live : goal.let_die-requires-clause-live
let_die-requires-clause-live c = c.requires.can.live

pub let_die-requires-clause-counted : goal.let_die-requires-clause-counted
let_die-requires-clause-counted c = c.requires.can.counted

pub send_on-requires-clause-low : goal.send_on-requires-clause-low
send_on-requires-clause-low c = c.requires.can.low

pub send_on-requires-clause-few : goal.send_on-requires-clause-few
send_on-requires-clause-few c = let fewer = c.in_ok-dropped.ensures.dead.count in let few = c.requires.can.few in omega (arith, fewer, few)

pub overflow_add-place : goal.overflow_add-place
overflow_add-place c = let few = c.requires.can.places in let p = c.in_ok-dropped.ensures.dead.places in omega (arith, few, p)

pub returns-in_err-dropped-clause-begins : goal.returns-in_err-dropped-clause-begins
returns-in_err-dropped-clause-begins c = c.let_die.ensures.begins

pub returns-in_err-give-clause-begins : goal.returns-in_err-give-clause-begins
returns-in_err-give-clause-begins c = c.let_die.ensures.begins

pub returns-in_err-more-clause-begins : goal.returns-in_err-more-clause-begins
returns-in_err-more-clause-begins c = c.let_die.ensures.begins

pub returns-clause-begins : goal.returns-clause-begins
returns-clause-begins c = c.let_die.ensures.begins
