-- A serving that leaves all others as they are: nobody dies, no token is spent, and nothing is sent on.
use Rattle.std.proofs.Common.{◌≡◌, ℕ, ◌+◌, true, List, [], ◌++◌, fold, refl, sym, ap, ◌∙◌, subst, arith}
use Rattle.std.proofs.lemmas.Bool.{true≢false}
use Rattle.link_admission.specs.Standings.{Known, ended, gone}
use Rattle.vfs_journal.specs.Entries.{Sent}
use Rattle.message_queues.specs.Dying.{tokens_on}
use Rattle.message_queues.specs.Queues.{Queues, count}
use Rattle.vfs_server.specs.declared.fate.Fate.{Fate}
use Rattle.vfs_server.specs.declared.fate.Fate.TheVariants as fates
use Rattle.vfs_world.specs.Heads.{SettlesHead}
use Rattle.vfs_world.specs.ServingSteps.{ForgetsAll, IsQuiet, SendsOn, ends_here, is_sent_on, known_told, spent_told}
use Rattle.vfs_world.specs.World.{World}
use Rattle.vfs_world.proofs.NoneDie.{none_die}

pub none_sent : (fate : Fate) → ends_here fate ≡ true → (place origin : ℕ) (queues : Queues) → SendsOn place origin fate queues queues
none_sent fates.Stays h place origin queues = refl
none_sent fates.Ends h place origin queues = refl
none_sent (fates.Binds object) h place origin queues = refl
none_sent (fates.Refuses object) h place origin queues = refl
none_sent (fates.Forwards mount object flags rest) h place origin queues = absurd (true≢false (sym h))
none_sent (fates.Gives token) h place origin queues = absurd (true≢false (sym h))

pub none_counted : (fate : Fate) → ends_here fate ≡ true → is_sent_on fate ≡ 0
none_counted fates.Stays h = refl
none_counted fates.Ends h = refl
none_counted (fates.Binds object) h = refl
none_counted (fates.Refuses object) h = refl
none_counted (fates.Forwards mount object flags rest) h = absurd (true≢false (sym h))
none_counted (fates.Gives token) h = absurd (true≢false (sym h))

pub none_given : (fate : Fate) → ends_here fate ≡ true → (known : Known) → known_told fate known ≡ known
none_given fates.Stays h known = refl
none_given fates.Ends h known = refl
none_given (fates.Binds object) h known = refl
none_given (fates.Refuses object) h known = refl
none_given (fates.Forwards mount object flags rest) h known = absurd (true≢false (sym h))
none_given (fates.Gives token) h known = absurd (true≢false (sym h))

pub settles_quietly : (world : World) (sent : Sent) (fate : Fate) (bytes : List ℕ) → IsQuiet sent fate → count world.queues ≡ world.known.waiting →
    SettlesHead world sent fate (record world { places = world.places + 1 }) bytes bytes
settles_quietly world sent fate bytes quiet counted =
    let died = none_die world sent fate [] bytes refl quiet.first counted in
    let spent : spent_told sent world.queues died.dead ≡ [] =
    ap (λ (tokens : List ℕ). tokens ++ tokens_on world.queues died.dead) quiet.tokens ∙ sym died.tokens in
    record {
      dead = died.dead;
      left = world.queues;
      those = world.servers;
      died = died.died;
      buried = died.buried;
      goes = died.goes;
      forgets = subst (λ (tokens : List ℕ). ForgetsAll world.servers tokens world.servers) (sym spent) refl;
      closed = died.closed;
      sends = none_sent fate quiet.here (world.places + 1) sent.place world.queues;
      known =
          died.known
          ∙ ap (λ (k : Known). let known : Known = record k { waiting = count world.queues } in known)
          (ap (λ (tokens : List ℕ). fold gone (fold ended world.known died.dead) tokens) (sym spent)
          ∙ sym (none_given fate quiet.here (fold gone (fold ended world.known died.dead) (spent_told sent world.queues died.dead))));
      places = let none = none_counted fate quiet.here in omega (arith, none);
    }
