-- The row, step by step: what each serving gives is computed once its message is read and its names are found.
use Rattle.std.proofs.Common.{◌≡◌, ℕ, List, [], ◌∷◌, ◌++◌, Option, None, codes, refl, ap, ◌∙◌}
use Rattle.std.specs.FinMap as finite
use Rattle.std.specs.Option.{option_map_or}
use Rattle.io_flags.specs.Grants.{asked_rights, explicit_rights}
use Rattle.io_flags.specs.Words.{flags_of}
use Rattle.io_messages.specs.Asked as asks
use Rattle.io_rights.specs.Operations.{OperationSet, all, is_within, join, none, set_of_bits}
use Rattle.node_graph.specs.Keys.{edges_total}
use Rattle.node_graph.specs.Tree.{EdgeKey, EdgeTo, Tree}
use Rattle.node_graph.specs.declared.nodes.NodeKind.TheVariants.{Directory, Mount}
use Rattle.path_walk.specs.Paths.{names_of}
use Rattle.conn_rules.specs.Walks.{Walk, arrives, behind, crosses, inner_step, last_step, missing, walk, masks_of}
use Rattle.fidl_names.specs.HandleNumber.{end_of_mount}
use Rattle.vfs_journal.specs.Serving.{Read, moment_of}
use Rattle.session_laws.specs.Lineage.{ancestors_of, end_rights, lineage_given, lineage_of, lines_of, masks_along, request_in, trail_given}
use Rattle.session_laws.specs.LineageRow.{Asks, Later, LineagesNameEachSet, Opens, all_served, cloned, crossed, end_of_m, end_of_n, is_sent, mask_of_a, mask_of_b, mask_of_d, mask_of_m, mask_of_n, of_client, of_clone, of_first_opened, of_last_opened, of_made, on_client, on_d, on_root, once_served, opened, over_m, over_n, sending, three_servers, thrice_served, through, tree_below, tree_with, twice_served, watched}

-- ---- the walks

key_in : ℕ → List ℕ → EdgeKey
key_in directory name = record { directory = directory; name = name }

edge_to : ℕ → OperationSet → EdgeTo
edge_to child mask = record { child = child; mask = mask }

abbrev first_tree : Tree
first_tree = tree_below (codes "a") mask_of_a (Mount 0) (codes "m") mask_of_m

abbrev third_tree : Tree
third_tree = tree_below (codes "b") mask_of_b Directory (codes "d") mask_of_d

abbrev two_edges : List ℕ → OperationSet → List ℕ → OperationSet → List (EdgeKey × EdgeTo)
two_edges first mask name mask' = (key_in 1 first, edge_to 2 mask) ∷ (key_in 2 name, edge_to 3 mask') ∷ []

to_m : walk first_tree 0 (codes "m" ∷ codes "n" ∷ codes "b" ∷ codes "d" ∷ []) 2 ≡ crosses 0 (codes "n" ∷ codes "b" ∷ codes "d" ∷ []) (mask_of_m ∷ [])
unfolding walk is_within join asked_rights explicit_rights flags_of set_of_bits key_in edge_to
to_m =
    let rest : List (List ℕ) = codes "n" ∷ codes "b" ∷ codes "d" ∷ [] in
    ap (λ (o : Option EdgeTo). inner_step first_tree 0 rest o (walk first_tree 0 rest)) (finite.get-from_entries edges_total (two_edges (codes "a") mask_of_a (codes "m") mask_of_m) (key_in 2 (codes "m")))

first_walk : walk first_tree 0 (codes "a" ∷ codes "m" ∷ codes "n" ∷ codes "b" ∷ codes "d" ∷ []) 1 ≡ crosses 0 (codes "n" ∷ codes "b" ∷ codes "d" ∷ []) (mask_of_a ∷ mask_of_m ∷ [])
unfolding walk is_within join asked_rights explicit_rights flags_of set_of_bits key_in edge_to
first_walk =
    let rest : List (List ℕ) = codes "m" ∷ codes "n" ∷ codes "b" ∷ codes "d" ∷ [] in
    ap (λ (o : Option EdgeTo). inner_step first_tree 0 rest o (walk first_tree 0 rest)) (finite.get-from_entries edges_total (two_edges (codes "a") mask_of_a (codes "m") mask_of_m) (key_in 1 (codes "a")))
    ∙ ap (behind mask_of_a) to_m

second_walk : walk (tree_with (Mount 1) (codes "n") mask_of_n) 0 (codes "n" ∷ codes "b" ∷ codes "d" ∷ []) 1 ≡ crosses 1 (codes "b" ∷ codes "d" ∷ []) (mask_of_n ∷ [])
unfolding walk is_within join asked_rights explicit_rights flags_of set_of_bits key_in edge_to
second_walk =
    let tree = tree_with (Mount 1) (codes "n") mask_of_n in
    let rest : List (List ℕ) = codes "b" ∷ codes "d" ∷ [] in
    ap (λ (o : Option EdgeTo). inner_step tree 0 rest o (walk tree 0 rest)) (finite.get-from_entries edges_total ((key_in 1 (codes "n"), edge_to 2 mask_of_n) ∷ []) (key_in 1 (codes "n")))

to_d : walk third_tree 0 (codes "d" ∷ []) 2 ≡ arrives 3 (mask_of_d ∷ [])
unfolding walk is_within join asked_rights explicit_rights flags_of set_of_bits key_in edge_to
to_d = ap (λ (o : Option EdgeTo). last_step third_tree 0 2 (codes "d") o) (finite.get-from_entries edges_total (two_edges (codes "b") mask_of_b (codes "d") mask_of_d) (key_in 2 (codes "d")))

third_walk : walk third_tree 0 (codes "b" ∷ codes "d" ∷ []) 1 ≡ arrives 3 (mask_of_b ∷ mask_of_d ∷ [])
unfolding walk is_within join asked_rights explicit_rights flags_of set_of_bits key_in edge_to
third_walk =
    let rest : List (List ℕ) = codes "d" ∷ [] in
    ap (λ (o : Option EdgeTo). inner_step third_tree 0 rest o (walk third_tree 0 rest)) (finite.get-from_entries edges_total (two_edges (codes "b") mask_of_b (codes "d") mask_of_d) (key_in 1 (codes "b")))
    ∙ ap (behind mask_of_b) to_d

no_x : walk third_tree 0 (codes "x" ∷ []) 3 ≡ missing 3 (codes "x") []
unfolding walk key_in edge_to
no_x = ap (λ (o : Option EdgeTo). last_step third_tree 0 3 (codes "x") o) (finite.get-from_entries edges_total (two_edges (codes "b") mask_of_b (codes "d") mask_of_d) (key_in 3 (codes "x")))

-- ---- the servings of the first Open

first_trail : (opens : Opens) → Asks opens.first (asks.open_path (codes "a/m/n/b/d") 0 None 5) → (lines_of three_servers (once_served opens)).onward 0 ≡ of_client ∷ mask_of_a ∷ mask_of_m ∷ end_of_m ∷ []
unfolding lines_of names_of
first_trail opens reads =
    let past = is_sent (on_client opens) [] in
    ap (λ (r : Read). option_map_or (trail_given three_servers (lines_of three_servers past) (on_client opens) (moment_of three_servers past (on_root 1 0 of_client))) (request_in r) []) reads.1
    ∙ ap (λ (w : Walk). (of_client ∷ []) ++ masks_of w ++ end_rights three_servers w) first_walk

second_trail : (opens : Opens) → Asks opens.first (asks.open_path (codes "a/m/n/b/d") 0 None 5) → Asks opens.second (asks.open_path (codes "n/b/d") 0 None 5) →
    (lines_of three_servers (twice_served opens)).onward 2 ≡ crossed
unfolding lines_of names_of
second_trail opens reads reads' =
    let past = is_sent (over_m opens) (once_served opens) in
    let way = crosses 1 (codes "b" ∷ codes "d" ∷ []) (mask_of_n ∷ []) in
    ap (λ (r : Read). option_map_or (trail_given three_servers (lines_of three_servers past) (over_m opens) (moment_of three_servers past (on_root (end_of_mount 0) 1 end_of_m))) (request_in r) []) reads'.1
    ∙ ap (λ (w : Walk). (lines_of three_servers (once_served opens)).onward 0 ++ masks_of w ++ end_rights three_servers w) second_walk
    ∙ ap (λ (trail : List OperationSet). trail ++ masks_of way ++ end_rights three_servers way) (first_trail opens reads)

third_lineage : (opens : Opens) → Asks opens.first (asks.open_path (codes "a/m/n/b/d") 0 None 5) → Asks opens.second (asks.open_path (codes "n/b/d") 0 None 5) → Asks opens.third (asks.open_path (codes "b/d") 0 None 5) →
    lineage_of three_servers (thrice_served opens) 5 ≡ crossed ++ mask_of_b ∷ mask_of_d ∷ of_first_opened ∷ []
unfolding lines_of names_of
third_lineage opens reads reads' reads'' =
    let past = is_sent (over_n opens) (twice_served opens) in
    let way = arrives 3 (mask_of_b ∷ mask_of_d ∷ []) in
    ap
    (λ (r : Read). option_map_or (lineage_given (lines_of three_servers past) (over_n opens) (moment_of three_servers past (on_root (end_of_mount 1) 2 end_of_n))) (request_in r) [] ++ of_first_opened ∷ [])
    reads''.1
    ∙ ap (λ (w : Walk). (lines_of three_servers (twice_served opens)).onward 2 ++ masks_along w ++ of_first_opened ∷ []) third_walk
    ∙ ap (λ (trail : List OperationSet). trail ++ masks_along way ++ of_first_opened ∷ []) (second_trail opens reads reads')

-- ---- what came of it

module _ (opens : Opens) (later : Later) (reads : Asks opens.first (asks.open_path (codes "a/m/n/b/d") 0 None 5)) (reads' : Asks opens.second (asks.open_path (codes "n/b/d") 0 None 5))
    (reads'' : Asks opens.third (asks.open_path (codes "b/d") 0 None 5)) (open_reads : Asks later.opens (asks.open_path (codes ".") 0 None 7)) where
  opened_lineage : lineage_of three_servers (opened opens later) 7 ≡ through
  unfolding lines_of names_of walk
  opened_lineage =
      let sent = sending 6 5 None later.opens in
      let past = is_sent sent (thrice_served opens) in
      ap (λ (r : Read). option_map_or (lineage_given (lines_of three_servers past) sent (moment_of three_servers past (on_d 5 of_first_opened))) (request_in r) [] ++ of_last_opened ∷ []) open_reads.1
      ∙ ap (λ (members : List OperationSet). members ++ masks_along (arrives 3 []) ++ of_last_opened ∷ []) (third_lineage opens reads reads' reads'')

  cloned_lineage : Asks later.clones (asks.clone 9) → lineage_of three_servers (cloned opens later) 9 ≡ through ++ of_clone ∷ []
  unfolding lines_of
  cloned_lineage reads_it =
      let sent = sending 8 7 None later.clones in
      let past = is_sent sent (opened opens later) in
      ap (λ (r : Read). option_map_or (lineage_given (lines_of three_servers past) sent (moment_of three_servers past (on_d 7 of_last_opened))) (request_in r) [] ++ of_clone ∷ []) reads_it.1
      ∙ ap (λ (members : List OperationSet). members ++ of_clone ∷ []) opened_lineage

  watched_lineage : Asks later.watches (asks.watch 31 0 11) → lineage_of three_servers (watched opens later) 11 ≡ through ++ none ∷ []
  unfolding lines_of
  watched_lineage reads_it =
      let sent = sending 10 7 None later.watches in
      let past = is_sent sent (cloned opens later) in
      ap (λ (r : Read). option_map_or (lineage_given (lines_of three_servers past) sent (moment_of three_servers past (on_d 7 of_last_opened))) (request_in r) [] ++ none ∷ []) reads_it.1
      ∙ ap (λ (members : List OperationSet). members ++ none ∷ []) opened_lineage

  made_lineage : Asks later.makes (asks.open_path (codes "x") 0 None 13) → lineage_of three_servers (all_served opens later) 13 ≡ through ++ all ∷ of_made ∷ []
  unfolding lines_of names_of
  made_lineage reads_it =
      let sent = sending 12 7 None later.makes in
      let past = is_sent sent (watched opens later) in
      ap (λ (r : Read). option_map_or (lineage_given (lines_of three_servers past) sent (moment_of three_servers past (on_d 7 of_last_opened))) (request_in r) [] ++ of_made ∷ []) reads_it.1
      ∙ ap (λ (w : Walk). lineage_of three_servers (opened opens later) 7 ++ masks_along w ++ of_made ∷ []) no_x
      ∙ ap (λ (members : List OperationSet). members ++ masks_along (missing 3 (codes "x") []) ++ of_made ∷ []) opened_lineage

pub each_set : LineagesNameEachSet
unfolding lines_of ancestors_of
each_set opens later reads reads' reads'' open_reads clone_reads watch_reads make_reads = record {
  trail = second_trail opens reads reads';
  opened = opened_lineage opens later reads reads' reads'' open_reads;
  cloned = cloned_lineage opens later reads reads' reads'' open_reads clone_reads;
  watched = watched_lineage opens later reads reads' reads'' open_reads watch_reads;
  made = made_lineage opens later reads reads' reads'' open_reads make_reads;
  sent_from_one = refl;
  opened_from_one = refl;
  cloned_from_one = refl;
  watched_from_one = refl;
  made_from_one = refl;
}
