-- The steps of the functions that read a file.
use Rattle.std.proofs.Common.{◌≡◌, ℕ, ◌-◌, ◌<◌, max, ◌==◌, if◌then◌else◌, Bool, true, false, List, [], ◌∷◌, ◌++◌, length, length-append, drop, refl, sym, ap, ◌∙◌, arith}
use Rattle.std.proofs.lemmas.Bool.{eqb-true, eqb-false}
use Rattle.grammars.specs.Grammar.{Part, row, Cst, none, node, pair, right, first, d_nothing, d_done, d_row, d_both, d_right, Reads, r_both, Productive}
use Rattle.kc_tree.specs.declared.decl.Decl.{Decl}
use Rattle.kc_tree.specs.declared.decl.File.{File}
use Rattle.kc_tree.specs.declared.decl.Import.{Import}
use Rattle.kc_tree.specs.declared.fault.Span.{Span}
use Rattle.kc_tree.specs.declared.types.Word.{Word}
use Rattle.kt_files.specs.declared.files.Content.{Content}
use Rattle.kt_files.specs.Files.{behind_package, content_of, span_over}
use Rattle.kt_files.specs.Heads.{a_package, imports}
use Rattle.kt_lexer.specs.declared.token.Token.{Token}
use Rattle.kt_grammar.specs.declared.cursor.Cursor.{Cursor}
use Rattle.kt_grammar.specs.DeclarationsBuilt as built
use Rattle.kt_grammar.specs.Parsed.{Read, Advanced}
use Rattle.kt_grammar.specs.Rows as rows
use Rattle.kt_grammar.specs.Rows.{Row, grammar}
use Rattle.kt_grammar.specs.TypesBuilt.{between, no_span, span_of}
use Rattle.kt_grammar.proofs.Extents.{Extent, none_taken, some_taken, extent, between_is}
use Rattle.kt_grammar.proofs.Steps.{read_both, read_row}

pub has_declarations : Productive grammar (row rows.declarations)
has_declarations = ([], node (right none), d_row (d_right d_nothing))

pub has_behind_package : Productive grammar behind_package
has_behind_package = ([], pair none (node (right none)), d_both d_done (d_row (d_right d_nothing)))

pub content_from : {ts : List Token} {start mid end : Cursor} {xs : List Import} {ys : List Decl} → Advanced imports built.imports_of ts start mid xs → Advanced (row rows.declarations) built.declarations_of ts mid end ys
    → Advanced behind_package content_of ts start end (record { imports = xs; decls = ys })
content_from p q = let f = p.builds in let g = q.builds in record {
  tree = pair p.tree q.tree;
  looked = max p.looked q.looked;
  read = read_both p.read q.read;
  builds = rw (f, g) refl;
  so_far = omega (arith, p.so_far, q.so_far);
}

-- ---- the place of a file

taken_none : {a : Part Row Token} {ts : List Token} {at end looked : ℕ} {x : Cst Token} → at ≡ end → Read a ts at end looked x → Extent (drop at ts) (drop end ts) x → span_of x ≡ no_span
taken_none e p (none_taken s f g) = rw f refl
taken_none {ts = ts} {at = at} {end = end} e p (some_taken k) =
    let size : length (drop at ts) ≡ length (k.front ++ k.token ∷ drop end ts) = ap length k.split in
    let same : length (drop at ts) ≡ length (drop end ts) = ap (λ n. length (drop n ts)) e in
    absurd (omega (arith, same, simp length-append at size))

span_in : {a : Part Row Token} {ts : List Token} {at end looked : ℕ} {x : Cst Token} (b : Bool) → (at == end) ≡ b → Read a ts at end looked x
    → (if b then no_span else between (first (drop at ts)) (first (drop (end - 1) ts))) ≡ span_of x
span_in {at = at} {end = end} true e p = sym (taken_none (eqb-true at end e) p (extent p.reads))
span_in {at = at} {end = end} false e p = let l : at < end = omega (arith, eqb-false at end e, p.ahead) in between_is l p l p

pub span_is : {a : Part Row Token} {ts : List Token} {at end looked : ℕ} {x : Cst Token} → Read a ts at end looked x → span_over ts at end ≡ span_of x
span_is {at = at} {end = end} p = span_in (at == end) refl p

-- ---- the file

abbrev file_with : Span → List Word → Content → File
file_with s ws x = record { span = s; «package» = ws; imports = x.imports; decls = x.decls }

file_alike : {s u : Span} {vs ws : List Word} {x y : Content} → s ≡ u → vs ≡ ws → x ≡ y → file_with s vs x ≡ file_with u ws y
file_alike {s = s} {u = u} {vs = vs} {ws = ws} {x = x} {y = y} f g h = ap (λ (t : Span). file_with t vs x) f ∙ ap (λ (us : List Word). file_with u us x) g ∙ ap (λ (z : Content). file_with u ws z) h

file_built : (p : Cst Token) {us rest : List Token} {c : Cst Token} → Reads grammar behind_package us c rest → file_with (span_of (pair p c)) (built.package_of p) (content_of c) ≡ built.file_of (node (pair p c))
file_built p (r_both d e) = refl

pub file_from : {ts : List Token} {start mid end : Cursor} {ws : List Word} {x : Content} {s : Span} {y : File} → Advanced a_package built.package_of ts start mid ws → Advanced behind_package content_of ts mid end x
    → s ≡ span_over ts start.at end.at → y ≡ record { span = s; «package» = ws; imports = x.imports; decls = x.decls } → Advanced (row rows.file) built.file_of ts start end y
file_from p q f i =
    let whole = read_both p.read q.read in
    record {
      tree = node (pair p.tree q.tree);
      looked = max p.looked q.looked;
      read = read_row {n = rows.file} whole;
      builds = i ∙ file_alike (f ∙ span_is whole) p.builds q.builds ∙ file_built p.tree q.read.reads;
      so_far = omega (arith, p.so_far, q.so_far);
    }
