-- A serving of which one endpoint dies while nothing waits: nobody dies with it, no token is spent, and nothing is sent on.
use Rattle.std.proofs.Common.{◌≡◌, ℕ, ◌+◌, ◌++◌, Bool, not, cond, List, [], ◌∷◌, filter, map, fold, Option, Some, append-nil, refl, sym, ap, ◌∙◌, subst, arith}
use Rattle.std.proofs.lemmas.Bool.{eq-eqb}
use Rattle.link_frames.specs.Frames.{spellings}
use Rattle.link_admission.specs.Standings.{Known, ended, gone}
use Rattle.vfs_journal.specs.Entries.{Sent}
use Rattle.vfs_journal.specs.Outcomes.{close_frame}
use Rattle.vfs_journal.specs.Output.{rising}
use Rattle.message_queues.specs.Dying.{AreDeaths, tokens_on}
use Rattle.message_queues.specs.Queues.{count}
use Rattle.vfs_server.specs.declared.fate.Fate.{Fate}
use Rattle.vfs_world.specs.Heads.{DiesAlone, SettlesHead}
use Rattle.vfs_world.specs.ServingSteps.{ForgetsAll, IsLoneEnd, SendsOn, closed_for, end_told, is_it, spent_told}
use Rattle.vfs_world.specs.World.{World}
use Rattle.vfs_world.proofs.NoneDie.{none_rise, nothing_waits_less}
use Rattle.vfs_world.proofs.Quiet.{none_counted, none_given, none_sent}

-- its own Close frame came with the answer
none_left : (end : ℕ) → filter (λ number. not (is_it (Some end) number)) (end ∷ []) ≡ []
none_left end = ap (λ (t : Bool). cond (not t) (end ∷ []) []) (eq-eqb end end refl)

none_closed : (one : Option ℕ) (end : ℕ) (bytes : List ℕ) → one ≡ Some end → bytes ≡ bytes ++ spellings (closed_for one (end ∷ []))
none_closed one end bytes is =
    sym (append-nil bytes)
    ∙ ap (λ (numbers : List ℕ). bytes ++ spellings (map close_frame numbers)) (sym none_rise ∙ ap rising (sym (none_left end)))
    ∙ ap (λ (o : Option ℕ). bytes ++ spellings (closed_for o (end ∷ []))) (sym is)

pub settles_alone : (old new : World) (sent : Sent) (fate : Fate) (bytes : List ℕ) (end : ℕ) → IsLoneEnd sent fate end → DiesAlone old end new → count old.queues ≡ old.known.waiting →
    SettlesHead old sent fate (record new { places = new.places + 1 }) bytes bytes
settles_alone old new sent fate bytes end lone dies counted =
    let spent : spent_told sent old.queues (end ∷ []) ≡ [] =
    ap (λ (tokens : List ℕ). tokens ++ tokens_on old.queues (end ∷ [])) lone.tokens ∙ dies.tokens in
    record {
      dead = end ∷ [];
      left = new.queues;
      those = new.servers;
      died = subst (λ (firsts : List ℕ). AreDeaths old.queues firsts (end ∷ [])) (sym lone.first) dies.died;
      buried = dies.buried;
      goes = dies.goes;
      forgets = subst (λ (tokens : List ℕ). ForgetsAll new.servers tokens new.servers) (sym spent) refl;
      closed = none_closed (end_told sent.endpoint fate) end bytes lone.told;
      sends =
          subst (λ (n : ℕ). SendsOn (n + 1) sent.place fate new.queues new.queues) dies.places
          (none_sent fate lone.here (new.places + 1) sent.place new.queues);
      known =
          dies.known
          ∙ nothing_waits_less (ended old.known end) (count new.queues) (dies.count ∙ counted)
          ∙ ap (λ (k : Known). let known : Known = record k { waiting = count new.queues } in known)
          (ap (λ (tokens : List ℕ). fold gone (ended old.known end) tokens) (sym spent)
          ∙ sym (none_given fate lone.here (fold gone (ended old.known end) (spent_told sent old.queues (end ∷ [])))));
      places = let none = none_counted fate lone.here in let p = dies.places in omega (arith, none, p);
    }
