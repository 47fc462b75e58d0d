-- What the fields of a `Tree` keep, and what each write of a link makes of its nodes (own).
use Rattle.std.specs.Prelude.{◌≡◌, ℕ, ◌==◌, nat_eq, Bool, if◌then◌else◌, List, Option, Some, None}
use Rattle.std.specs.Option.{option_map}
use Rattle.std.specs.Map.{lookup}
use Rattle.dav_path_core.specs.declared.tree.Node.{Node}
use Rattle.dav_path_core.specs.Keyed.{IsTree, parent_and_key_of}
use Rattle.dav_path_core.specs.TreeValue.{links_first, links_after}
use Rattle.dav_path_core.specs.Private.Chains.{Linked}
use Rattle.dav_path_core.specs.View.{entry_of, links_of, keyed_of}

module _ {K D : Type 0} where
  abbrev pub previous_of : Option (Node K D) → Option ℕ
  previous_of None = None
  previous_of (Some n) = n.previous_sibling

  -- what stands at a number
  abbrev pub node_numbered : List (ℕ × Node K D) → ℕ → Option (Node K D)
  node_numbered es n = lookup (nat_eq n) es

  abbrev pub parent_in : (ℕ → Option (Node K D)) → ℕ → Option ℕ
  parent_in at n = option_map (λ q. q.0) (parent_and_key_of (option_map entry_of (at n)))

  abbrev pub first_in : (ℕ → Option (Node K D)) → ℕ → Option ℕ
  first_in at n = links_first (option_map links_of (at n))

  abbrev pub next_in : (ℕ → Option (Node K D)) → ℕ → Option ℕ
  next_in at n = links_after (option_map links_of (at n))

  abbrev pub previous_in : (ℕ → Option (Node K D)) → ℕ → Option ℕ
  previous_in at n = previous_of (at n)

  -- the links of the nodes are lists of children
  abbrev pub IsChained : (ℕ → Option (Node K D)) → Type 0
  IsChained at = Linked (parent_in at) (first_in at) (next_in at) (previous_in at)

  -- what the fields of a tree keep
  pub record IsLinked (eq : K → K → Bool) (es : List (ℕ × Node K D)) (next : ℕ) : Type 0 where
    pub tree : IsTree eq (keyed_of es next)
    pub chained : IsChained (node_numbered es)
    pub root_alone : next_in (node_numbered es) 1 ≡ None

  -- a node with no child, before the sibling f, if there is one
  abbrev pub new_node : ℕ → K → D → Option ℕ → Node K D
  new_node p k d f = record { item = d; parent_and_key = Some (p, k); first_child = None; next_sibling = f; previous_sibling = None }

  -- the nodes with another, or none, at n
  abbrev pub with_node_at : (ℕ → Option (Node K D)) → ℕ → Option (Node K D) → ℕ → Option (Node K D)
  with_node_at at n o q = if q == n then o else at q

  -- the nodes with that at n changed
  abbrev pub with_change_at : (ℕ → Option (Node K D)) → ℕ → (Node K D → Node K D) → ℕ → Option (Node K D)
  with_change_at at n f q = if q == n then option_map f (at q) else at q

  abbrev pub with_first_child : (ℕ → Option (Node K D)) → ℕ → Option ℕ → ℕ → Option (Node K D)
  with_first_child at n o = with_change_at at n (λ x. record x { first_child = o })

  abbrev pub with_next : (ℕ → Option (Node K D)) → ℕ → Option ℕ → ℕ → Option (Node K D)
  with_next at n o = with_change_at at n (λ x. record x { next_sibling = o })

  abbrev pub with_previous : (ℕ → Option (Node K D)) → ℕ → Option ℕ → ℕ → Option (Node K D)
  with_previous at n o = with_change_at at n (λ x. record x { previous_sibling = o })

  -- the node at m, if there is one, with n before it
  abbrev pub led_back : (ℕ → Option (Node K D)) → Option ℕ → Option ℕ → ℕ → Option (Node K D)
  led_back at None o = at
  led_back at (Some m) o = with_previous at m o

  -- n put before the first child f of p
  abbrev pub put_before : (ℕ → Option (Node K D)) → ℕ → ℕ → Option ℕ → ℕ → Option (Node K D)
  put_before at p n f = led_back (with_first_child at p (Some n)) f (Some n)

  -- the link that leads to a child of p, from the sibling b before it or from p, leads to o
  abbrev pub led_on : (ℕ → Option (Node K D)) → ℕ → Option ℕ → Option ℕ → ℕ → Option (Node K D)
  led_on at p None o = with_first_child at p o
  led_on at p (Some b) o = with_next at b o

  -- the neighbours b and a of a child of p led to each other
  abbrev pub closed_up : (ℕ → Option (Node K D)) → ℕ → Option ℕ → Option ℕ → ℕ → Option (Node K D)
  closed_up at p b a = led_back (led_on at p b a) a b

  -- the node at n with the parent p and the key k, before the sibling f, if there is one
  abbrev pub with_parent_and_key : (ℕ → Option (Node K D)) → ℕ → ℕ → K → Option ℕ → ℕ → Option (Node K D)
  with_parent_and_key at n p k f = with_change_at at n (λ x. record x { parent_and_key = Some (p, k); next_sibling = f; previous_sibling = None })

  -- the node at n hung below p under the key that it has, before the sibling f, if there is one
  abbrev pub with_parent : (ℕ → Option (Node K D)) → ℕ → ℕ → Option ℕ → ℕ → Option (Node K D)
  with_parent at n p f = with_change_at at n (λ x. record x { parent_and_key = option_map (λ q. (p, q.1)) x.parent_and_key; next_sibling = f; previous_sibling = None })
