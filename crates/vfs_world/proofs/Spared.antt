-- A serving of which nobody dies and by which nothing goes on: it may spend and give tokens.
use Rattle.std.proofs.Common.{◌≡◌, ℕ, ◌+◌, false, Some, List, [], ◌++◌, fold, append-nil, refl, sym, ap, ◌∙◌, subst, arith}
use Rattle.std.specs.FinMap as finite
use Rattle.link_admission.specs.Standings.{Known, gone}
use Rattle.vfs_journal.specs.Entries.{Sent, tokens_in}
use Rattle.message_queues.specs.Dying.{tokens_on}
use Rattle.message_queues.specs.Queues.{Queues, count}
use Rattle.vfs_server.specs.declared.fate.Fate.{Fate}
use Rattle.vfs_server.specs.declared.fate.Fate.TheVariants as fates
use Rattle.vfs_server.specs.Servers.{Server}
use Rattle.vfs_world.specs.Heads.{CanSettle, SettlesButPlace, SettlesHead}
use Rattle.vfs_world.specs.ServingSteps.{CanGo, ForgetsAll, ForgetsEach, IsLoneGift, IsLoneToken, SendsOn, first_told, is_sent_on, known_told, spent_told}
use Rattle.vfs_world.specs.World.{World}
use Rattle.vfs_world.proofs.Halves.{settled_known}
use Rattle.vfs_world.proofs.NoneDie.{none_die}
use Rattle.vfs_world.proofs.Quiet.{none_counted, none_given}

none_onward : (fate : Fate) → is_sent_on fate ≡ 0 → (place origin : ℕ) (queues : Queues) → SendsOn place origin fate queues queues
none_onward fates.Stays h place origin queues = refl
none_onward fates.Ends h place origin queues = refl
none_onward (fates.Binds object) h place origin queues = refl
none_onward (fates.Refuses object) h place origin queues = refl
none_onward (fates.Forwards mount object flags rest) h place origin queues = absurd (omega (arith, h))
none_onward (fates.Gives token) h place origin queues = refl

settles_spared : (world : World) (those : List Server) (known : Known) (sent : Sent) (fate : Fate) (bytes : List ℕ) → first_told sent fate ≡ [] → is_sent_on fate ≡ 0 → count world.queues ≡ world.known.waiting →
    ForgetsAll world.servers (tokens_in sent) those → known ≡ known_told fate (fold gone world.known (tokens_in sent)) →
    SettlesHead world sent fate (record world { servers = those; known = known; places = world.places + 1 }) bytes bytes
settles_spared world those known sent fate bytes first none counted forgets is =
    let died = none_die world sent fate [] bytes refl first counted in
    let spent : tokens_in sent ≡ spent_told sent world.queues died.dead = sym (append-nil (tokens_in sent)) ∙ ap (λ (tokens : List ℕ). tokens_in sent ++ tokens) died.tokens in
    record {
      dead = died.dead;
      left = world.queues;
      those = world.servers;
      died = died.died;
      buried = died.buried;
      goes = died.goes;
      forgets = subst (λ (tokens : List ℕ). ForgetsAll world.servers tokens those) spent forgets;
      closed = died.closed;
      sends = none_onward fate none (world.places + 1) sent.place world.queues;
      known =
          settled_known world.known world.known (fold gone world.known (tokens_in sent)) known fate died.dead (tokens_in sent) (spent_told sent world.queues died.dead) (count world.queues) died.known
          spent refl is;
      places = omega (arith, none);
    }

-- the token that the entry carries is out
pub token_out : (world : World) (sent : Sent) (fate : Fate) (token : ℕ) → IsLoneToken sent fate token → CanSettle world sent fate → finite.get world.known.tokens token ≡ Some false
token_out world sent fate token lone can =
    let died = none_die world sent fate [] [] refl lone.first can.counted in
    (subst (λ (tokens : List ℕ). CanGo world.known (tokens ++ tokens_on world.queues died.dead)) lone.tokens (can.out died.dead died.died)).0

-- the token that the entry carries is forgotten
pub settles_spending : (world : World) (those : List Server) (known : Known) (sent : Sent) (fate : Fate) (token : ℕ) → IsLoneToken sent fate token → count world.queues ≡ world.known.waiting →
    ForgetsEach world.servers token those → known ≡ gone world.known token → SettlesButPlace world sent fate (record world { servers = those; known = known })
settles_spending world those known sent fate token lone counted forgets is = (
  refl,
  λ bytes.
      settles_spared world those known sent fate bytes lone.first (none_counted fate lone.here) counted
      (subst (λ (tokens : List ℕ). ForgetsAll world.servers tokens those) (sym lone.tokens) (those, (forgets, refl)))
      (is ∙ ap (fold gone world.known) (sym lone.tokens) ∙ sym (none_given fate lone.here (fold gone world.known (tokens_in sent)))),
)

-- the token that the fate gives is known
pub settles_giving : (world : World) (known : Known) (sent : Sent) (fate : Fate) → IsLoneGift sent fate → count world.queues ≡ world.known.waiting → known ≡ known_told fate world.known →
    SettlesButPlace world sent fate (record world { known = known })
settles_giving world known sent fate lone counted is = (
  refl,
  λ bytes.
      settles_spared world world.servers known sent fate bytes lone.first lone.sends counted
      (subst (λ (tokens : List ℕ). ForgetsAll world.servers tokens world.servers) (sym lone.tokens) refl)
      (is ∙ ap (λ (tokens : List ℕ). known_told fate (fold gone world.known tokens)) (sym lone.tokens)),
)
