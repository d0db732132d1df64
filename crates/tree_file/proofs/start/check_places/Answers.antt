use Rattle.tree_file.proofs.Places.{stands-empty}
use Rattle.tree_file.proofs.start.check_places.Goals as goal

pub check_placed-requires : goal.check_placed-requires
check_placed-requires c = stands-empty c.new-places.result c.new-places.ensures.empty
