-- The rules of a registry in two records, and that each goes only by the words that it reads: where these stay, it holds on.
use Rattle.std.specs.Prelude.{◌≡◌, ℕ, suc, ◌<◌, List, ◌==◌}
use Rattle.std.proofs.Common.{sym, ◌∙◌, arith, ap}
use Rattle.base.specs.Below.{one}
use Rattle.base.specs.SumLaws.{sum_ext}
use Rattle.base.specs.Distinct.{Differ}
use Rattle.registry.specs.Words.{id_at, state_at, link_at, recycled_at, revoked, has_list, child_of, children}
use Rattle.registry.specs.Sound.{Issued, Ascend, Unregistered, Linked, ParentHasList, Short, Cascaded, Held}

-- Of the n registered ids.
pub record RegisteredRules (places n next : ℕ) (rg : List ℕ) : Type 0 where
  pub differ : Differ n (id_at rg)
  pub issued : Issued n (id_at rg) next
  pub linked : Linked n (link_at places rg)
  pub parent_has_list : ParentHasList n (link_at places rg) (state_at places rg)
  pub short : Short n (link_at places rg)
  pub cascaded : Cascaded n (link_at places rg) (state_at places rg)

-- Of the m recycled ids.
pub record RecycledRules (places n m next : ℕ) (rg : List ℕ) : Type 0 where
  pub ascend : Ascend m (recycled_at places rg)
  pub unregistered : Unregistered m (recycled_at places rg) n (id_at rg)
  pub issued : Issued m (recycled_at places rg) next

-- Of both, and of the holders; `spaces id` counts the spaces with an entry of the id.
pub record RegistryRules (places n m next : ℕ) (spaces : ℕ → ℕ) (rg : List ℕ) : Type 0 where
  pub registered : RegisteredRules places n next rg
  pub recycled : RecycledRules places n m next rg
  pub held : Held n (id_at rg) (state_at places rg) spaces

-- g has the values of f below n.
abbrev pub Same : ℕ → (ℕ → ℕ) → (ℕ → ℕ) → Type 0
Same n f g = (k : ℕ) → k < n → g k ≡ f k

pub differ_same : (n : ℕ) (id id' : ℕ → ℕ) → Same n id id' → Differ n id → Differ n id'
differ_same n id id' same differ j l i u e = differ j l i u (sym (same i (omega arith)) ∙ e ∙ same j l)

pub issued_same : (n : ℕ) (id id' : ℕ → ℕ) (next : ℕ) → Same n id id' → Issued n id next → Issued n id' next
issued_same n id id' next same issued k l = rw (same k l) (issued k l)

pub ascend_same : (m : ℕ) (recycled recycled' : ℕ → ℕ) → Same m recycled recycled' → Ascend m recycled → Ascend m recycled'
ascend_same m recycled recycled' same ascend k l = rw (same k (omega arith), same (suc k) l) (ascend k l)

pub unregistered_same :
    (m : ℕ) (recycled recycled' : ℕ → ℕ) (n : ℕ) (id id' : ℕ → ℕ) → Same m recycled recycled' → Same n id id'
    → Unregistered m recycled n id → Unregistered m recycled' n id'
unregistered_same m recycled recycled' n id id' same_recycled same_ids apart j l k u e =
    apart j l k u (sym (same_recycled j l) ∙ e ∙ same_ids k u)

module _ (n : ℕ) (link link' : ℕ → ℕ) (same : Same n link link') where
  pub linked_same : Linked n link → Linked n link'
  linked_same linked k l = rw (same k l) (linked k l)

  pub children_same : (p : ℕ) → children link' n p ≡ children link n p
  unfolding children
  children_same p =
      sum_ext (λ k. one (child_of link' p k)) (λ k. one (child_of link p k)) n (λ k l. ap (λ x. one (x == suc p)) (same k l))

  pub short_same : Short n link → Short n link'
  short_same short p l = rw (children_same p) (short p l)

  module _ (state state' : ℕ → ℕ) (linked : Linked n link) where
    -- A parent stands before its child.
    parent_below : (k p : ℕ) → k < n → link k ≡ suc p → p < n
    parent_below k p l e = omega (arith, linked k l)

    pub has_list_same : Same n (λ k. has_list (state k)) (λ k. has_list (state' k)) → ParentHasList n link state
        → ParentHasList n link' state'
    has_list_same flag has k l p e =
        let child : link k ≡ suc p = sym (same k l) ∙ e in
        flag p (parent_below k p l child) ∙ has k l p child

    pub cascaded_same : Same n (λ k. revoked (state k)) (λ k. revoked (state' k)) → Cascaded n link state → Cascaded n link' state'
    cascaded_same flag cascaded k l p e gone =
        let child : link k ≡ suc p = sym (same k l) ∙ e in
        flag k l ∙ cascaded k l p child (sym (flag p (parent_below k p l child)) ∙ gone)

module _ (places n next : ℕ) (rg rg' : List ℕ) (ids : Same n (id_at rg) (id_at rg')) where
  abbrev link : ℕ → ℕ
  link = link_at places rg

  abbrev link' : ℕ → ℕ
  link' = link_at places rg'

  abbrev state : ℕ → ℕ
  state = state_at places rg

  abbrev state' : ℕ → ℕ
  state' = state_at places rg'

  -- With ids and links the same, only what is said of states is left to show.
  pub registered_links :
      Same n (link_at places rg) (link_at places rg')
      → ParentHasList n (link_at places rg') (state_at places rg') → Cascaded n (link_at places rg') (state_at places rg')
      → RegisteredRules places n next rg → RegisteredRules places n next rg'
  registered_links links parent_has_list cascaded rules = record {
    differ = differ_same n (id_at rg) (id_at rg') ids rules.differ;
    issued = issued_same n (id_at rg) (id_at rg') next ids rules.issued;
    linked = linked_same n link link' links rules.linked;
    parent_has_list = parent_has_list;
    short = short_same n link link' links rules.short;
    cascaded = cascaded;
  }

  pub registered_same :
      Same n (link_at places rg) (link_at places rg')
      → Same n (λ k. has_list (state_at places rg k)) (λ k. has_list (state_at places rg' k))
      → Same n (λ k. revoked (state_at places rg k)) (λ k. revoked (state_at places rg' k))
      → RegisteredRules places n next rg → RegisteredRules places n next rg'
  registered_same links lists flags rules =
      registered_links links
      (has_list_same n link link' links state state' rules.linked lists rules.parent_has_list)
      (cascaded_same n link link' links state state' rules.linked flags rules.cascaded) rules

  pub recycled_same :
      (m : ℕ) → Same m (recycled_at places rg) (recycled_at places rg') → RecycledRules places n m next rg
      → RecycledRules places n m next rg'
  recycled_same m again rules =
      let recycled : ℕ → ℕ = recycled_at places rg in
      let recycled' : ℕ → ℕ = recycled_at places rg' in
      record {
        ascend = ascend_same m recycled recycled' again rules.ascend;
        unregistered = unregistered_same m recycled recycled' n (id_at rg) (id_at rg') again ids rules.unregistered;
        issued = issued_same m recycled recycled' next again rules.issued;
      }
