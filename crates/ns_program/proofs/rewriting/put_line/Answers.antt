use Rattle.std.proofs.Common.{refl}
use Rattle.ns_program.specs.Rewriting.{opened, copied, opening}
use Rattle.ns_program.proofs.rewriting.put_line.Goals as goal

pub returns-in_default : goal.returns-in_default
returns-in_default c = record {
  out = c.args.line.now;
  becomes = copied (c.in_default.ensures.none refl) refl;
  put = c.in_ok-extend_from_slice.ensures.items;
}

pub returns-in_ok-put_opening-in-Ok : goal.returns-in_ok-put_opening-in-Ok
returns-in_ok-put_opening-in-Ok c = record {
  out = opening c.in-Ok.found.endpoint c.in-Ok.found.rest c.in-Some.opened.flags.now c.in-Some.opened.object.now;
  becomes = opened c.in-Some.opened.path.now c.in-Some.opened.flags.now c.in-Some.opened.object.now c.in-Ok.found.rest c.in-Ok.found.endpoint c.in-Some.ensures.opens c.in-Ok.ensures.found refl;
  put = c.in_ok-put_opening-in-Ok.ensures;
}
