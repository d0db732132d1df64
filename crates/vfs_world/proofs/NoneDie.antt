-- Where nobody dies all is as it was.
use Rattle.std.proofs.Common.{◌≡◌, ℕ, ◌==◌, ◌++◌, true, List, [], length, zero, ◌∷◌, map, append-nil, refl, sym, ap, ◌∙◌, subst, arith}
use Rattle.std.specs.List.Sorted.{IsStrictlySortedBy}
use Rattle.std.proofs.lemmas.Bool.{eqb-true, true≢false}
use Rattle.link_frames.specs.Frames.{spellings}
use Rattle.link_admission.specs.Standings.{Known}
use Rattle.vfs_journal.specs.Entries.{Sent}
use Rattle.vfs_journal.specs.Outcomes.{close_frame}
use Rattle.vfs_journal.specs.Output.{rising}
use Rattle.vfs_journal.specs.View.{View}
use Rattle.message_queues.specs.Dying.{AreDeaths}
use Rattle.message_queues.specs.Queues.{Queues, count}
use Rattle.vfs_server.specs.declared.fate.Fate.{Fate}
use Rattle.vfs_server.specs.Servers.{Server}
use Rattle.vfs_world.specs.Heads.{LetsDie}
use Rattle.vfs_world.specs.Holding.{HoldsEach}
use Rattle.vfs_world.specs.ServingSteps.{first_told, without_in}
use Rattle.vfs_world.specs.World.{World}
use Rattle.vfs_world.proofs.LettingGo.{filter_true}
use Rattle.vfs_world.proofs.ServerSteps.{Living}
use Rattle.vfs_world.proofs.Sorted.{rising_is}

nobody : (queues : Queues) → AreDeaths queues [] []
nobody queues = record {
  first = λ n h. h;
  closed = λ n h. absurd (true≢false (sym h));
  least = λ set first closed n h. absurd (true≢false (sym h));
  once = λ i j d a b. absurd (omega arith);
}

pub nothing_waits_less : (known : Known) (n : ℕ) → n ≡ known.waiting → ◌≡◌ {A = Known} known (record known { waiting = n })
nothing_waits_less known n e = ap (λ (k : ℕ). let x : Known = record known { waiting = k } in x) (sym e)

none_go : (view : View) (servers : List Server) → HoldsEach view servers → HoldsEach (without_in view []) servers
none_go view servers h = subst (λ (l : Living). HoldsEach (record view { living = l }) servers) (sym (filter_true view.living)) h

pub none_rise : rising [] ≡ []
unfolding IsStrictlySortedBy
none_rise = rising_is [] [] tt (λ n. refl)

pub none_die : (world : World) (sent : Sent) (fate : Fate) (dropped bytes : List ℕ) → dropped ≡ [] → first_told sent fate ≡ [] → count world.queues ≡ world.known.waiting → LetsDie world sent fate dropped world bytes bytes
none_die world sent fate dropped bytes nothing none counted = record {
  dead = [];
  died = subst (λ (firsts : List ℕ). AreDeaths world.queues firsts []) (sym none) (nobody world.queues);
  buried = record { waiting = λ n. refl; bound = λ n. refl; those = refl };
  tokens = nothing;
  goes = λ view apart h. none_go view world.servers h;
  closed = sym (append-nil bytes) ∙ ap (λ (ns : List ℕ). bytes ++ spellings (map close_frame ns)) (sym none_rise);
  known = nothing_waits_less world.known (count world.queues) counted;
  count = omega arith;
  places = refl;
}

no_length : (xs : List ℕ) → length xs ≡ zero → xs ≡ []
no_length [] e = refl
no_length (x ∷ xs) e = absurd (omega (arith, e))

pub no_items : (xs : List ℕ) (n : ℕ) → n ≡ length xs → (n == 0) ≡ true → xs ≡ []
no_items xs n long none = no_length xs (sym long ∙ eqb-true n 0 none)
