-- Sockets by the nodes that are their names.
use Rattle.std.specs.Prelude.{◌≡◌, ℕ, ◌==◌, Bool, false, not, Option, None, Some}
use Rattle.std.specs.Ordering.{nat_cmp}
use Rattle.std.specs.FinMap.{FinMap, get, insert, retain_keys}

-- sockets by the nodes that are their names
abbrev pub Named : Type 0
Named = FinMap nat_cmp ℕ

-- what a node names is this socket
abbrev pub is_socket : Option ℕ → ℕ → Bool
is_socket None i = false
is_socket (Some j) i = j == i

-- the names without that of a socket
abbrev pub without_name : Named → ℕ → Named
without_name named i = retain_keys named (λ node. not (is_socket (get named node) i))

-- the names with a node for a socket, which has no other one, as the node has no other socket
abbrev pub with_name : Named → ℕ → ℕ → Named
with_name named node i = insert (without_name named i) node i

-- the node of each socket that has a name is known
pub record AreKnown (named nodes : Named) : Type 0 where
  pub node : (n i : ℕ) → get named n ≡ Some i → get nodes i ≡ Some n
