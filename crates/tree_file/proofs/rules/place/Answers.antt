use Rattle.std.proofs.Common.{refl, sym, ◌∙◌}
use Rattle.tree_file.proofs.Places.{stands-more, free_where_fit}
use Rattle.tree_file.proofs.rules.place.Goals as goal

pub returns-then-not-fits_in : goal.returns-then-not-fits_in
returns-then-not-fits_in c listed stands = (sym c.if-not-fits_in.true ∙ c.fits_in.ensures listed stands, λ fits. absurd (cc))

pub returns : goal.returns
returns c listed stands =
    let fits = sym (c.fits_in.ensures listed stands) ∙ c.if-not-fits_in.false in (
      sym fits,
      λ here. stands-more c.args.places.now c.insert.new.self listed (record { server = c.args.server; path = c.args.path.now; directory = c.args.directory }) c.args.path refl stands (free_where_fit listed c.args.server c.args.path.now fits)
          c.in_ok-insert.ensures.updates.0,
    )
