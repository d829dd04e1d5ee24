-- How the counts of a shelf grow over the replies of a run.
use Rattle.std.proofs.Common.{◌≡◌, ℕ, ◌+◌, ◌≤◌, ◌⊎◌, inl, inr, ltb, Bool, true, false, ◌||◌, cond, List, [], ◌∷◌, ◌++◌, count_by, refl, sym, ◌∙◌, subst, arith}
use Rattle.std.specs.List.{list_any}
use Rattle.std.proofs.lemmas.Bool.{false≢true, ltb-true, ltb-false}
use Rattle.std.proofs.lemmas.List.Folds.{list_any-append}
use Rattle.std.proofs.lemmas.List.Sums.{sum_by-append, sum_by-cons}
use Rattle.evm_outside.specs.Causes.{Rose, Climbed, MayClimb, counter_last}
use Rattle.evm_model.specs.Edits as codes
use Rattle.evm_model.specs.Replies.{Reply, No}
use Rattle.evm_model.specs.Runs.{World, Mark, Plain, NoMemory, NoShelf, Fetched, answer, fetched_from}
use Rattle.evm_model.proofs.StepLaws.{has_memory}
use Rattle.evm_session.specs.Answers.{FaultsBy, MissesBy}
use Rattle.evm_tool.specs.Top.{Counts, RoseBy, is_no_shelf, is_no_missing, is_no_memory}
use Rattle.evm_tool.specs.Served.{FaultsOver, MissesOver}

-- a count over one reply: it never falls, it rises over one of a kind, and stays over others, want of memory aside
pub record Tells (kind : Reply → Bool) (reply : Reply) (before now : ℕ) : Type 0 where
  pub later : MayClimb before now
  pub rose : kind reply ≡ true → Rose before now
  pub stays : kind reply ≡ false → is_no_memory reply ≡ false → now ≡ before

climbed : (before now : ℕ) → Climbed before now → MayClimb before now
climbed before now h = (h.0, omega (arith, h.1.1))

stays : (before now : ℕ) → now ≡ before → MayClimb before now
stays before now e = (omega (arith, e), omega (arith, e))

pub tells_faults : (reply : Reply) (before now : ℕ) → FaultsOver reply before now → Tells is_no_shelf reply before now
tells_faults (No codes.Shelf) before now h = record { later = climbed before now h; rose = λ e. h.1; stays = λ e. absurd (false≢true (sym e)) }
tells_faults (No codes.Memory) before now h = record { later = h; rose = λ e. absurd (false≢true e); stays = λ e k. absurd (false≢true (sym k)) }
tells_faults reply before now h = record { later = stays before now h; rose = λ e. absurd (false≢true e); stays = λ e k. h }

pub tells_misses : (reply : Reply) (before now : ℕ) → MissesOver reply before now → Tells is_no_missing reply before now
tells_misses (No codes.Missing) before now h = record { later = climbed before now h; rose = λ e. h.1; stays = λ e. absurd (false≢true (sym e)) }
tells_misses (No codes.Memory) before now h = record { later = h; rose = λ e. absurd (false≢true e); stays = λ e k. absurd (false≢true (sym k)) }
tells_misses reply before now h = record { later = stays before now h; rose = λ e. absurd (false≢true e); stays = λ e k. h }

kept_over : (reply : Reply) (before now : ℕ) → (reply ≡ No codes.Shelf → ⊥) → now ≡ before → FaultsOver reply before now
kept_over (No codes.Shelf) before now n h = absurd (n refl)
kept_over (No codes.Memory) before now n h = stays before now h
kept_over reply before now n h = h

-- the count of faults by the mark of a line tells of its reply
pub faults_over : (w : World) (line : List ℕ) (m : Mark) (before now : ℕ) → FaultsBy m before now → FaultsOver (answer w line m).reply before now
faults_over w line Plain before now h = kept_over (answer w line Plain).reply before now (has_memory (fetched_from w.files) w.scene line).1 h
faults_over w line NoMemory before now h = stays before now h
faults_over w line NoShelf before now h = h
faults_over w line (Fetched got) before now h = kept_over (answer w line (Fetched got)).reply before now (has_memory (λ name. got) w.scene line).1 h

pub misses_over : (reply : Reply) (before now : ℕ) → MissesBy reply before now → MissesOver reply before now
misses_over (No codes.Missing) before now h = h
misses_over (No codes.Memory) before now h = stays before now h
misses_over reply before now h = h

-- no reply yet
pub counts_none : (kind : Reply → Bool) (before : ℕ) → Counts kind [] before before
counts_none kind before = record { rose = inl (omega arith); stays = λ e k. refl }

-- one reply more
pub count_more : (kind : Reply → Bool) (rs : List Reply) (r : Reply) → count_by kind (rs ++ r ∷ []) ≡ count_by kind rs + cond (kind r) 1 0
count_more kind rs r =
    let one : Reply → ℕ = λ x. cond (kind x) 1 0 in
    omega (arith, sum_by-append one rs (r ∷ []), sum_by-cons one r [])

or_left : (a b : Bool) → a || b ≡ false → a ≡ false
or_left true b e = absurd (false≢true (sym e))
or_left false b e = refl

or_right : (a b : Bool) → a || b ≡ false → b ≡ false
or_right true b e = absurd (false≢true (sym e))
or_right false b e = e

last_not : (kind : Reply → Bool) (rs : List Reply) (r : Reply) → list_any kind (rs ++ r ∷ []) ≡ false → kind r ≡ false
last_not kind rs r e = or_left (kind r) false (or_right (list_any kind rs) (list_any kind (r ∷ [])) (sym (list_any-append kind rs (r ∷ [])) ∙ e))

front_not : (kind : Reply → Bool) (rs : List Reply) (r : Reply) → list_any kind (rs ++ r ∷ []) ≡ false → list_any kind rs ≡ false
front_not kind rs r e = or_left (list_any kind rs) (list_any kind (r ∷ [])) (sym (list_any-append kind rs (r ∷ [])) ∙ e)

one_more : (much more first before now : ℕ) → first + much ≤ before → (more ≡ 1) × Rose before now → RoseBy (much + more) first now
one_more much more first before now rose one = elim (ltb before counter_last) as (λ b. ltb before counter_last ≡ b → RoseBy (much + more) first now) [
  | true ↦ λ e. let below = ltb-true before counter_last e in inl (omega (arith, rose, one.0, one.1.0, below))
  | false ↦ λ e. let last = ltb-false before counter_last e in inr (omega (arith, one.1.0, one.1.1, last))
] refl

rose_here : (b : Bool) (n before now : ℕ) → n ≡ cond b 1 0 → (b ≡ true → Rose before now) → (n ≡ 0) ⊎ ((n ≡ 1) × Rose before now)
rose_here true n before now e h = inr (e, h refl)
rose_here false n before now e h = inl e

-- a count that rose so much and then stays or rises, and rises where one more is counted
rose_more : (much more first before now : ℕ) → RoseBy much first before → MayClimb before now → (more ≡ 0) ⊎ ((more ≡ 1) × Rose before now) → RoseBy (much + more) first now
rose_more much more first before now (inl rose) later (inl none) = inl (omega (arith, rose, later.0, none))
rose_more much more first before now (inl rose) later (inr one) = one_more much more first before now rose one
rose_more much more first before now (inr last) later r = inr (omega (arith, last, later.0, later.1))

-- one reply more
pub counts_more : (kind : Reply → Bool) (rs : List Reply) (r : Reply) (first before now : ℕ) → Counts kind rs first before → Tells kind r before now → Counts kind (rs ++ r ∷ []) first now
counts_more kind rs r first before now c t = record {
  rose = subst (λ (n : ℕ). RoseBy n first now) (sym (count_more kind rs r))
      (rose_more (count_by kind rs) (cond (kind r) 1 0) first before now c.rose t.later (rose_here (kind r) (cond (kind r) 1 0) before now refl t.rose));
  stays = λ e k. t.stays (last_not kind rs r e) (last_not is_no_memory rs r k) ∙ c.stays (front_not kind rs r e) (front_not is_no_memory rs r k);
}
