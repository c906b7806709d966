-- What a reader must believe, in the order of the scope document: the RFC's rule for a number, the line of an IPv4 network, the answers of the calls;
-- numbers are those of text_decimal. Before has the rule that a line followed earlier: what is read today does not rest on it.
pub mod DecOctet
pub mod Ipv4
pub mod Answers
pub mod Before
