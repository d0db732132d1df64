use Rattle.std.proofs.Common.{◌<◌, List, [], ◌∷◌, ◌++◌, length, map, take, get_or, sym, ap, ◌∙◌, arith}
use Rattle.std.proofs.lemmas.List.{length-set, take_more, take_more_set, map-append}
use Rattle.fidl_names.specs.declared.methods.Handle.{Handle}
use Rattle.fidl_names.specs.HandleNumber.{handle_with}
use Rattle.link_frames.specs.Views.{handle_numbers}
use Rattle.io_client.proofs.client.put_handles.Goals as goal

pub loop-place-preserved : goal.loop-place-preserved
loop-place-preserved c =
    let numbers = handle_numbers c.args.numbers in
    let i = c.loop-place.place in
    let few : i < length numbers = omega (arith, c.loop-place-test.true, c.len-place-end.ensures) in
    let room : i < length c.loop-place.handles = omega (arith, few, c.requires, c.len-place-end.ensures, c.loop-place.invariant.0) in (
      length-set c.loop-place.handles i c.with_number.result ∙ c.loop-place.invariant.0,
      take_more_set c.loop-place.handles i c.with_number.result room
          ∙ (ap (λ (l : List Handle). l ++ c.with_number.result ∷ []) c.loop-place.invariant.1
          ∙ (ap (λ (h : Handle). map handle_with (take i numbers) ++ h ∷ []) (c.with_number.ensures ∙ ap handle_with c.at.ensures)
          ∙ (sym (map-append handle_with (take i numbers) (get_or numbers i 0 ∷ [])) ∙ ap (map handle_with) (sym (take_more numbers i 0 few))))),
    )
