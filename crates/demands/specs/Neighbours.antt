-- The other cases of document 01, "Neon and its neighbours", those without a star. Assumes nothing.
use Rattle.std.specs.Prelude.{List, [], ◌∷◌}
use Rattle.demands.specs.Cases.{Case, ◌gives◌at◌}

-- "256 atoms pass, 257: 14. Charge 99 passes, 100 or 0: 10. `+1 1 1`: 13. Formula `CO`: 9; `C O` passes."
unfoldable pub neighbours : List Case
neighbours =
    ("##TITLE= a\n##JCAMP-CS= 3.7\n##ORIGIN= b\n##OWNER= c\n##MOLFORM= Ne256\n##ATOMLIST=\n1 Ne\n2 Ne\n3 Ne\n4 Ne\n5 Ne\n6 Ne\n7 Ne\n8 Ne\n9 Ne\n10 Ne\n11 Ne\n12 Ne\n13 Ne\n14 Ne\n15 Ne\n16 Ne\n17 Ne\n18 Ne\n19 Ne\n20 Ne\n21 Ne\n22 Ne\n23 Ne\n24 Ne\n25 Ne\n26 Ne\n27 Ne\n28 Ne\n29 Ne\n30 Ne\n31 Ne\n32 Ne\n33 Ne\n34 Ne\n35 Ne\n36 Ne\n37 Ne\n38 Ne\n39 Ne\n40 Ne\n41 Ne\n42 Ne\n43 Ne\n44 Ne\n45 Ne\n46 Ne\n47 Ne\n48 Ne\n49 Ne\n50 Ne\n51 Ne\n52 Ne\n53 Ne\n54 Ne\n55 Ne\n56 Ne\n57 Ne\n58 Ne\n59 Ne\n60 Ne\n61 Ne\n62 Ne\n63 Ne\n64 Ne\n65 Ne\n66 Ne\n67 Ne\n68 Ne\n69 Ne\n70 Ne\n71 Ne\n72 Ne\n73 Ne\n74 Ne\n75 Ne\n76 Ne\n77 Ne\n78 Ne\n79 Ne\n80 Ne\n81 Ne\n82 Ne\n83 Ne\n84 Ne\n85 Ne\n86 Ne\n87 Ne\n88 Ne\n89 Ne\n90 Ne\n91 Ne\n92 Ne\n93 Ne\n94 Ne\n95 Ne\n96 Ne\n97 Ne\n98 Ne\n99 Ne\n100 Ne\n101 Ne\n102 Ne\n103 Ne\n104 Ne\n105 Ne\n106 Ne\n107 Ne\n108 Ne\n109 Ne\n110 Ne\n111 Ne\n112 Ne\n113 Ne\n114 Ne\n115 Ne\n116 Ne\n117 Ne\n118 Ne\n119 Ne\n120 Ne\n121 Ne\n122 Ne\n123 Ne\n124 Ne\n125 Ne\n126 Ne\n127 Ne\n128 Ne\n129 Ne\n130 Ne\n131 Ne\n132 Ne\n133 Ne\n134 Ne\n135 Ne\n136 Ne\n137 Ne\n138 Ne\n139 Ne\n140 Ne\n141 Ne\n142 Ne\n143 Ne\n144 Ne\n145 Ne\n146 Ne\n147 Ne\n148 Ne\n149 Ne\n150 Ne\n151 Ne\n152 Ne\n153 Ne\n154 Ne\n155 Ne\n156 Ne\n157 Ne\n158 Ne\n159 Ne\n160 Ne\n161 Ne\n162 Ne\n163 Ne\n164 Ne\n165 Ne\n166 Ne\n167 Ne\n168 Ne\n169 Ne\n170 Ne\n171 Ne\n172 Ne\n173 Ne\n174 Ne\n175 Ne\n176 Ne\n177 Ne\n178 Ne\n179 Ne\n180 Ne\n181 Ne\n182 Ne\n183 Ne\n184 Ne\n185 Ne\n186 Ne\n187 Ne\n188 Ne\n189 Ne\n190 Ne\n191 Ne\n192 Ne\n193 Ne\n194 Ne\n195 Ne\n196 Ne\n197 Ne\n198 Ne\n199 Ne\n200 Ne\n201 Ne\n202 Ne\n203 Ne\n204 Ne\n205 Ne\n206 Ne\n207 Ne\n208 Ne\n209 Ne\n210 Ne\n211 Ne\n212 Ne\n213 Ne\n214 Ne\n215 Ne\n216 Ne\n217 Ne\n218 Ne\n219 Ne\n220 Ne\n221 Ne\n222 Ne\n223 Ne\n224 Ne\n225 Ne\n226 Ne\n227 Ne\n228 Ne\n229 Ne\n230 Ne\n231 Ne\n232 Ne\n233 Ne\n234 Ne\n235 Ne\n236 Ne\n237 Ne\n238 Ne\n239 Ne\n240 Ne\n241 Ne\n242 Ne\n243 Ne\n244 Ne\n245 Ne\n246 Ne\n247 Ne\n248 Ne\n249 Ne\n250 Ne\n251 Ne\n252 Ne\n253 Ne\n254 Ne\n255 Ne\n256 Ne\n##END=\n" gives 0 at 0)  -- 256 atoms pass
    ∷ ("##TITLE= a\n##JCAMP-CS= 3.7\n##ORIGIN= b\n##OWNER= c\n##MOLFORM= Ne257\n##ATOMLIST=\n1 Ne\n2 Ne\n3 Ne\n4 Ne\n5 Ne\n6 Ne\n7 Ne\n8 Ne\n9 Ne\n10 Ne\n11 Ne\n12 Ne\n13 Ne\n14 Ne\n15 Ne\n16 Ne\n17 Ne\n18 Ne\n19 Ne\n20 Ne\n21 Ne\n22 Ne\n23 Ne\n24 Ne\n25 Ne\n26 Ne\n27 Ne\n28 Ne\n29 Ne\n30 Ne\n31 Ne\n32 Ne\n33 Ne\n34 Ne\n35 Ne\n36 Ne\n37 Ne\n38 Ne\n39 Ne\n40 Ne\n41 Ne\n42 Ne\n43 Ne\n44 Ne\n45 Ne\n46 Ne\n47 Ne\n48 Ne\n49 Ne\n50 Ne\n51 Ne\n52 Ne\n53 Ne\n54 Ne\n55 Ne\n56 Ne\n57 Ne\n58 Ne\n59 Ne\n60 Ne\n61 Ne\n62 Ne\n63 Ne\n64 Ne\n65 Ne\n66 Ne\n67 Ne\n68 Ne\n69 Ne\n70 Ne\n71 Ne\n72 Ne\n73 Ne\n74 Ne\n75 Ne\n76 Ne\n77 Ne\n78 Ne\n79 Ne\n80 Ne\n81 Ne\n82 Ne\n83 Ne\n84 Ne\n85 Ne\n86 Ne\n87 Ne\n88 Ne\n89 Ne\n90 Ne\n91 Ne\n92 Ne\n93 Ne\n94 Ne\n95 Ne\n96 Ne\n97 Ne\n98 Ne\n99 Ne\n100 Ne\n101 Ne\n102 Ne\n103 Ne\n104 Ne\n105 Ne\n106 Ne\n107 Ne\n108 Ne\n109 Ne\n110 Ne\n111 Ne\n112 Ne\n113 Ne\n114 Ne\n115 Ne\n116 Ne\n117 Ne\n118 Ne\n119 Ne\n120 Ne\n121 Ne\n122 Ne\n123 Ne\n124 Ne\n125 Ne\n126 Ne\n127 Ne\n128 Ne\n129 Ne\n130 Ne\n131 Ne\n132 Ne\n133 Ne\n134 Ne\n135 Ne\n136 Ne\n137 Ne\n138 Ne\n139 Ne\n140 Ne\n141 Ne\n142 Ne\n143 Ne\n144 Ne\n145 Ne\n146 Ne\n147 Ne\n148 Ne\n149 Ne\n150 Ne\n151 Ne\n152 Ne\n153 Ne\n154 Ne\n155 Ne\n156 Ne\n157 Ne\n158 Ne\n159 Ne\n160 Ne\n161 Ne\n162 Ne\n163 Ne\n164 Ne\n165 Ne\n166 Ne\n167 Ne\n168 Ne\n169 Ne\n170 Ne\n171 Ne\n172 Ne\n173 Ne\n174 Ne\n175 Ne\n176 Ne\n177 Ne\n178 Ne\n179 Ne\n180 Ne\n181 Ne\n182 Ne\n183 Ne\n184 Ne\n185 Ne\n186 Ne\n187 Ne\n188 Ne\n189 Ne\n190 Ne\n191 Ne\n192 Ne\n193 Ne\n194 Ne\n195 Ne\n196 Ne\n197 Ne\n198 Ne\n199 Ne\n200 Ne\n201 Ne\n202 Ne\n203 Ne\n204 Ne\n205 Ne\n206 Ne\n207 Ne\n208 Ne\n209 Ne\n210 Ne\n211 Ne\n212 Ne\n213 Ne\n214 Ne\n215 Ne\n216 Ne\n217 Ne\n218 Ne\n219 Ne\n220 Ne\n221 Ne\n222 Ne\n223 Ne\n224 Ne\n225 Ne\n226 Ne\n227 Ne\n228 Ne\n229 Ne\n230 Ne\n231 Ne\n232 Ne\n233 Ne\n234 Ne\n235 Ne\n236 Ne\n237 Ne\n238 Ne\n239 Ne\n240 Ne\n241 Ne\n242 Ne\n243 Ne\n244 Ne\n245 Ne\n246 Ne\n247 Ne\n248 Ne\n249 Ne\n250 Ne\n251 Ne\n252 Ne\n253 Ne\n254 Ne\n255 Ne\n256 Ne\n257 Ne\n##END=\n" gives 14 at 1763)  -- 257: 14
    ∷ ("##TITLE= a\n##JCAMP-CS= 3.7\n##ORIGIN= b\n##OWNER= c\n##MOLFORM= Ne\n##ATOMLIST=\n1 Ne\n##CHARGE=\n+99 1\n##END=\n" gives 0 at 0)  -- charge 99 passes
    ∷ ("##TITLE= a\n##JCAMP-CS= 3.7\n##ORIGIN= b\n##OWNER= c\n##MOLFORM= Ne\n##ATOMLIST=\n1 Ne\n##CHARGE=\n+100 1\n##END=\n" gives 10 at 91)  -- 100: 10
    ∷ ("##TITLE= a\n##JCAMP-CS= 3.7\n##ORIGIN= b\n##OWNER= c\n##MOLFORM= Ne\n##ATOMLIST=\n1 Ne\n##CHARGE=\n0 1\n##END=\n" gives 10 at 91)  -- 0: 10
    ∷ ("##TITLE= a\n##JCAMP-CS= 3.7\n##ORIGIN= b\n##OWNER= c\n##MOLFORM= Ne\n##ATOMLIST=\n1 Ne\n##CHARGE=\n+1 1 1\n##END=\n" gives 13 at 91)  -- an atom twice in a charge
    ∷ ("##TITLE= a\n##JCAMP-CS= 3.7\n##ORIGIN= b\n##OWNER= c\n##MOLFORM= CO\n##ATOMLIST=\n1 C\n2 O\n##END=\n" gives 9 at 50)  -- CO is carbon and an O that nothing parts from it
    ∷ ("##TITLE= a\n##JCAMP-CS= 3.7\n##ORIGIN= b\n##OWNER= c\n##MOLFORM= C O\n##ATOMLIST=\n1 C\n2 O\n##END=\n" gives 0 at 0)  -- C O passes
    ∷ []
