-- What a PROPPATCH leaves in the stores, and why they refuse it.
use Rattle.std.proofs.Common.{◌≡◌, inl, inr, List, Option, Some, None, Ok, Err, refl, sym, ◌∙◌, ap, subst}
use Rattle.std.specs.Prelude.{Contains, ok_or}
use Rattle.std.proofs.lemmas.List.{append-nil}
use Rattle.dav_path_core.specs.declared.errors.FsError.{FsError}
use Rattle.dav_path_core.specs.declared.errors.FsError.TheVariants as fs
use Rattle.dav_path_core.specs.Fronts.{Path}
use Rattle.dav_path_core.proofs.lists.FinMaps.{get_same, get_other}
use Rattle.dav_path_core.proofs.lists.Orders.{path_total, path_exact}
use Rattle.dav_files_core.specs.Finding.{refusal_at}
use Rattle.dav_files_core.specs.Outcomes.{Outcome, ◌>>=◌, with_other_node}
use Rattle.dav_files_core.specs.Properties.{patch_answers, patch_props, patched_properties}
use Rattle.dav_files_core.specs.Resources.{Resource, ResourceMap, at_path}
use Rattle.dav_guarded_core.specs.Requests.{Command, Reply, Refusal, Fs, Locked, NoLock, OutOfMemory}
use Rattle.dav_guarded_core.specs.ResourceStep.{patches}
use Rattle.dav_guarded_core.specs.Step.{State, Serves}
use Rattle.dav_session_core.specs.Callers.{Caller, asking, refusing_at}
use Rattle.dav_session_core.specs.Patching.{IsPatched, KeepsProperties, with_updates}
use Rattle.dav_session_core.specs.PatchRefusals.{patch_fault}
use Rattle.dav_documents_core.specs.PropertyUpdates.{Update}
use Rattle.dav_session_core.proofs.PutLemmas.{rebuilt}

-- ---- what is left

-- the map with a resource's properties changed
record Placed (m : ResourceMap) (p : Path) (updates : List Update) (m' : ResourceMap) : Type 0 where
  resource : Resource
  stood : at_path m p ≡ Some resource
  left : m' ≡ with_other_node m p resource (record resource.node { props = patched_properties resource.node.props updates })

abbrev told : Reply → ResourceMap → Outcome Reply
told reply n = Ok (reply, n)

left_by : (reply reply' : Reply) (n m' : ResourceMap) → told reply n ≡ told reply' m' → m' ≡ n
left_by reply reply' n m' h =
    let pairs : (reply, n) ≡ (reply', m') = cc in ap (λ (x : Reply × ResourceMap). x.1) (sym pairs)

placed : (m m' : ResourceMap) (p : Path) (updates : List Update) (reply : Reply) → patches (patch_props m p updates) ≡ told reply m' → Placed m p updates m'
placed m m' p updates reply h = by (at_path m p) refl h
  where
    by : (o : Option Resource) → at_path m p ≡ o
        → patches (ok_or o (refusal_at m p) >>= λ (r : Resource). Ok (patch_answers updates, with_other_node m p r (record r.node { props = patched_properties r.node.props updates }))) ≡ told reply m'
        → Placed m p updates m'
    by (Some r) there h = record { resource = r; stood = there; left = left_by _ reply _ m' h }
    by None there h = absurd (cc)

pub patched_there : (who : Caller) (s s' : State) (p : Path) (updates : List Update) (reply : Reply)
    → Serves s (asking who (Command.PatchProps p updates)) (Ok reply) s' → IsPatched p updates s s'
patched_there who s s' p updates reply h =
    let there = placed s.map s'.map p updates reply h.1.0 in
    let now = with_updates updates there.resource in
    record {
      resource = there.resource;
      stood = there.stood;
      stands = ap (λ (n : ResourceMap). at_path n p) there.left ∙ get_same path_total path_exact s.map.entries p now;
      others = λ q apart. ap (λ (n : ResourceMap). at_path n q) there.left ∙ get_other path_total path_exact s.map.entries p now q apart;
      next = ap (λ (n : ResourceMap). n.next) there.left;
      left = rebuilt s s' h.1.1;
    }

-- ---- refusals

nothing_there : (m : ResourceMap) (p : Path) (updates : List Update) (e : FsError) → patches (patch_props m p updates) ≡ Err e → at_path m p ≡ None
nothing_there m p updates e h = by (at_path m p) refl h
  where
    by : (o : Option Resource) → at_path m p ≡ o
        → patches (ok_or o (refusal_at m p) >>= λ (r : Resource). Ok (patch_answers updates, with_other_node m p r (record r.node { props = patched_properties r.node.props updates }))) ≡ Err e
        → at_path m p ≡ None
    by (Some r) there h = absurd (cc)
    by None there h = there

pub not_patched : (who : Caller) (s s' : State) (p : Path) (updates : List Update) (e : Refusal) → Serves s (asking who (Command.PatchProps p updates)) (Err e) s'
    → KeepsProperties s who p (patch_fault e)
not_patched who s s' p updates (Fs fs.InsufficientStorage) h = tt
not_patched who s s' p updates (Fs _) h = elim h.0.2 [ inl lacks ↦ absurd (cc) | inr refused ↦ nothing_there s.map p updates _ refused.0 ]
not_patched who s s' p updates (Locked l) h =
    (l, subst (λ locks. Contains locks l) (append-nil (refusing_at s who p)) h.0, refl)
not_patched who s s' p updates NoLock h = absurd h.0
not_patched who s s' p updates OutOfMemory h = tt
