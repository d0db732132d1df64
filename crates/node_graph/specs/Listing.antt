-- A name of a listing as a caller sees it.
use Rattle.node_graph.specs.declared.listing.NameView.{NameView}
use Rattle.node_graph.specs.Graph.{Listed}

abbrev pub listed : NameView → Listed
listed view = record { name = view.name.now; number = view.number; kind = view.kind }
