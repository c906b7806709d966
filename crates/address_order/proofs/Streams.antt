-- The laws of the address order that reading and writing set files cite, each from the file that proves it. Assumes nothing.
pub use Rattle.address_order.proofs.AddressOrder.{number, earlier-self, earlier-trans, earlier-total, earlier-not, earlier-equal, earlier-number}
pub use Rattle.address_order.proofs.Shared.{shared-leads, shared-le-left, shared-le-right, shared-number, shared-left, shared-right}
pub use Rattle.address_order.proofs.Rising.{rising-first, rising-tail}
pub use Rattle.address_order.proofs.Flat.{member-flat, rising-flat, of_length-flat}
pub use Rattle.address_order.proofs.PathNodes.{path_nodes-flat, more_nodes-few, path_nodes-few}
pub use Rattle.address_order.proofs.Lengths.{member-of_length}
pub use Rattle.address_order.proofs.Sorted.{member-order, length-order, within-order, rising-order, of_length-order, loose-order, flat-order, nodes-order}
pub use Rattle.address_order.proofs.Lanes.{of_length-head, of_length-other, of_length-append, of_length-last, of_length-last-other, of_length-member, of_length-first, of_length-none, rising-least}
